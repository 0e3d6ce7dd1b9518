-- One order of a walk, or one missing name; what is ranked has no circle.
use Rattle.std.proofs.Common.{◌≡◌, List, [], ◌∷◌, ◌++◌, Contains, refl, sym, subst, ⊎_elim, arith}
use Rattle.std.proofs.lemmas.List.Elements.{All-contains, Contains-append_left, Contains-append_cases, Contains-push_cases}
use Rattle.gds_stream.specs.declared.library.Structure.{Structure}
use Rattle.gds_flat.specs.Reach.Order.{done, known, new}
use Rattle.gds_flat.specs.Reach.Missing.{here, later, within}
use Rattle.gds_flat.specs.Reach.{Name, references, Order, Missing, Refers, Chain, IsCycle, StandsBehind, RankedBehind, Acyclic}

pub one_order : (library : List Structure) {seen names o p : List Name} → Order library seen names o → Order library seen names p → o ≡ p
one_order library done done = refl
one_order library (known a r) (known b q) = one_order library r q
one_order library (known a r) (new b f q) = absurd (b a)
one_order library (new a e r) (known b q) = absurd (a b)
one_order library (new {seen = seen} {agenda = agenda} {n = n} {s = s} a e r) (new {order = p} {s = t} b f q) =
    let same : t ≡ s = cc in
    let P : Structure → Type 0 = λ x. Order library (seen ++ n ∷ []) (references x.elements ++ agenda) p in
    one_order library r (subst P same q)

pub no_order_and_missing : (library : List Structure) {seen names o : List Name} {n : Name} → Order library seen names o → Missing library seen names n → ⊥
no_order_and_missing library done missing = elim missing [ ]
no_order_and_missing library (known a r) (here b e) = b a
no_order_and_missing library (known a r) (later b q) = no_order_and_missing library r q
no_order_and_missing library (known a r) (within b f q) = b a
no_order_and_missing library (new a e r) (here b f) = cc
no_order_and_missing library (new a e r) (later b q) = a b
no_order_and_missing library (new {seen = seen} {agenda = agenda} {n = n} {s = s} a e r) (within {m = m} {s = t} b f q) =
    let same : t ≡ s = cc in
    let P : Structure → Type 0 = λ x. Missing library (seen ++ n ∷ []) (references x.elements ++ agenda) m in
    no_order_and_missing library r (subst P same q)

pub one_missing : (library : List Structure) {seen names : List Name} {m n : Name} → Missing library seen names m → Missing library seen names n → m ≡ n
one_missing library (here a e) (here b f) = refl
one_missing library (here a e) (later b q) = absurd (a b)
one_missing library (here a e) (within b f q) = cc
one_missing library (later a r) (here b f) = absurd (b a)
one_missing library (later a r) (later b q) = one_missing library r q
one_missing library (later a r) (within b f q) = absurd (b a)
one_missing library (within a e r) (here b f) = cc
one_missing library (within a e r) (later b q) = absurd (a b)
one_missing library (within {seen = seen} {agenda = agenda} {n = n} {s = s} a e r) (within {m = m} {s = t} b f q) =
    let same : t ≡ s = cc in
    let P : Structure → Type 0 = λ x. Missing library (seen ++ n ∷ []) (references x.elements ++ agenda) m in
    one_missing library r (subst P same q)

-- what the names refer to is among them
abbrev pub IsClosed : List Structure → List Name → Type 0
IsClosed library names = (n m : Name) → Contains names n → Refers library n m → Contains names m

-- a chain from among them stays among them
chain_stays : (library : List Structure) (before : List Name) → IsClosed library before → (a : Name) (names : List Name) (b : Name)
    → Contains before a → Chain library a (names ++ b ∷ []) → Contains before b
chain_stays library before closed a [] b at chain = closed a b at chain.0
chain_stays library before closed a (c ∷ names) b at chain = chain_stays library before closed c names b (closed a c at chain.0) chain.1

-- one more name that stands behind them
closed_more : (library : List Structure) (before : List Name) (n : Name) → IsClosed library before → StandsBehind library before n
    → IsClosed library (before ++ n ∷ [])
closed_more library before n closed stands x m at refers =
    ⊎_elim (λ h. Contains-append_left before (n ∷ []) m (closed x m h refers))
    (λ e. let P : Name → Type 0 = λ y. Refers library y m in
    Contains-append_left before (n ∷ []) m (stands.behind m (subst P (sym e) refers)))
    (Contains-push_cases before n x at)

-- a circle through a name leads into what stands before it
back_before : (library : List Structure) (before : List Name) → IsClosed library before → (a : Name) (between : List Name)
    → StandsBehind library before a → Chain library a (between ++ a ∷ []) → ⊥
back_before library before closed a [] stands chain = stands.fresh (stands.behind a chain.0)
back_before library before closed a (c ∷ between) stands chain =
    stands.fresh (chain_stays library before closed c between a (stands.behind c chain.0) chain.1)

pub no_circle : (library : List Structure) (before names : List Name) → IsClosed library before → RankedBehind library before names
    → (a : Name) (between : List Name) → Contains names a → Chain library a (between ++ a ∷ []) → ⊥
no_circle library before [] closed ranked a between at chain = absurd (omega (arith, at.1))
no_circle library before (n ∷ names) closed ranked a between at chain =
    ⊎_elim
    (λ h. ⊎_elim (λ none. absurd (omega (arith, none.1)))
    (λ e. let P : Name → Type 0 = λ y. StandsBehind library before y in
    back_before library before closed a between (subst P e ranked.0) chain)
    (Contains-push_cases [] n a h))
    (λ h. no_circle library (before ++ n ∷ []) names (closed_more library before n closed ranked.0) ranked.1 a between h chain)
    (Contains-append_cases (n ∷ []) names a at)

-- so what is acyclic has none
pub acyclic_has_none : (library : List Structure) (order names : List Name) → Acyclic library order → (c : IsCycle library names) → Contains order c.start → ⊥
acyclic_has_none library order names acyclic c at =
    let on : Contains acyclic.finish c.start = All-contains (Contains acyclic.finish) order c.start acyclic.all at in
    no_circle library [] acyclic.finish (λ n m none refers. absurd (omega (arith, none.1))) acyclic.ranked c.start c.between on c.chain
