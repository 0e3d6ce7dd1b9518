-- From one place there is one search, which may be broken off sooner or later, and one ending.
use Rattle.std.proofs.Common.{◌≡◌, ℕ, ◌≤◌, ◌⊎◌, List, [], ◌∷◌, length, drop, Option, None, Result, Ok, Err, refl, sym, ap, subst, subst₂, ◌∙◌, inl, inr, arith}
use Rattle.rt_tableau.specs.States.{State}
use Rattle.rt_simplex.specs.Runs.{NeedsPivot, IsOutcome}
use Rattle.rt_simplex.specs.declared.answers.End.{End}
use Rattle.rt_simplex.specs.declared.answers.SearchError.{SearchError}
use Rattle.rt_simplex.specs.declared.answers.SearchError.TheVariants.{Refuted, Overflow, Budget, OutOfMemory}
use Rattle.rt_simplex.proofs.Determined.{optimum_has_none, ray_has_none}
use Rattle.rt_simplex.proofs.OneRun.{within, goes_not_on, one_answer}
use Rattle.rt_branch.specs.declared.parts.Best.{Best}
use Rattle.rt_branch.specs.Searches.{Place, Move, place, IsMove, after, IsSearch, IsEnding}
use Rattle.rt_branch.specs.Searches.Move.{Pivot, Ray, Whole, Pruned, Branch}
use Rattle.rt_branch.specs.Searches.IsSearch.{none, more}
use Rattle.rt_branch.specs.Laws.{SearchesAreOne, OneEnding}
use Rattle.rt_branch.proofs.OneMove.{one_move_each}

first_node : State → List State → State
first_node otherwise [] = otherwise
first_node otherwise (node ∷ rest) = node

same_first : (node other : State) (rest others : List State) → node ∷ rest ≡ other ∷ others → node ≡ other
unfolding first_node
same_first node other rest others e = ap (first_node node) e

same_rest : (node other : State) (rest others : List State) → node ∷ rest ≡ other ∷ others → rest ≡ others
same_rest node other rest others e = ap (drop 1) e

some_node : (node : State) (rest : List State) → [] ≡ node ∷ rest → ⊥
some_node node rest e = omega (arith, ap length e)

-- a search's first move, and the search from there on
record Begins (start at : Place) : Type 0 where
  best : Option Best
  node : State
  rest : List State
  made : ℕ
  move : Move
  is : start ≡ place best (node ∷ rest) made
  moves : IsMove best node move
  on : IsSearch (after best node rest made move) at

-- a search makes no move, or begins with one
begins : (start at : Place) → IsSearch start at → (start ≡ at) ⊎ Begins start at
begins start _ none = inl refl
begins start _ (more best node rest made move search moves) = further (begins start (place best (node ∷ rest) made) search)
  where
    further : (start ≡ place best (node ∷ rest) made) ⊎ Begins start (place best (node ∷ rest) made) → (start ≡ after best node rest made move) ⊎ Begins start (after best node rest made move)
    further (inl e) = inr (record { best = best; node = node; rest = rest; made = made; move = move; is = e; moves = moves; on = none })
    further (inr b) = inr (record { best = b.best; node = b.node; rest = b.rest; made = b.made; move = b.move; is = b.is; moves = b.moves; on = more best node rest made move b.on moves })

one_goes_on : (start other : Place) → IsSearch start other → (at : Place) → IsSearch start at → IsSearch at other ⊎ IsSearch other at
one_goes_on start other second _ none = inl second
one_goes_on start other second _ (more best node rest made move search moves) = further (one_goes_on start other second (place best (node ∷ rest) made) search)
  where
    aside : (place best (node ∷ rest) made ≡ other) ⊎ Begins (place best (node ∷ rest) made) other → IsSearch (after best node rest made move) other ⊎ IsSearch other (after best node rest made move)
    aside (inl e) = inr (subst (λ a. IsSearch a (after best node rest made move)) e (more best node rest made move none moves))
    aside (inr b) =
        let of_best : b.best ≡ best = sym (ap (λ (a : Place). a.best) b.is) in
        let of_made : b.made ≡ made = sym (ap (λ (a : Place). a.made) b.is) in
        let of_nodes : node ∷ rest ≡ b.node ∷ b.rest = ap (λ (a : Place). a.nodes) b.is in
        let of_node : b.node ≡ node = sym (same_first node b.node rest b.rest of_nodes) in
        let of_rest : b.rest ≡ rest = sym (same_rest node b.node rest b.rest of_nodes) in
        let of_move : b.move ≡ move = one_move_each best node b.move move (subst₂ (λ x y. IsMove x y b.move) of_best of_node b.moves) moves in
        inl (subst (λ a. IsSearch a other) (λ i. after (of_best i) (of_node i) (of_rest i) (of_made i) (of_move i)) b.on)

    further : IsSearch (place best (node ∷ rest) made) other ⊎ IsSearch other (place best (node ∷ rest) made) → IsSearch (after best node rest made move) other ⊎ IsSearch other (after best node rest made move)
    further (inl on) = aside (begins (place best (node ∷ rest) made) other on)
    further (inr back) = inr (more best node rest made move back moves)

pub searches_are_one_each : SearchesAreOne
searches_are_one_each start at other first second = one_goes_on start other second at first

-- pivots are counted, and nothing is counted back
made_after : (best : Option Best) (node : State) (rest : List State) (made : ℕ) (move : Move) → made ≤ (after best node rest made move).made
made_after best node rest made (Pivot p q) = omega arith
made_after best node rest made (Ray p) = omega arith
made_after best node rest made (Whole kept) = omega arith
made_after best node rest made Pruned = omega arith
made_after best node rest made (Branch j n) = omega arith

pub made_rises : (start at : Place) → IsSearch start at → start.made ≤ at.made
made_rises start _ none = omega arith
made_rises start _ (more best node rest made move search moves) =
    let before = made_rises start (place best (node ∷ rest) made) search in let more_made = made_after best node rest made move in omega (arith, before, more_made)

-- a stop has a dual pivot before it
needs : (limit : ℕ) (node : State) (made : ℕ) (error : SearchError) → IsOutcome limit node made (Err error) → NeedsPivot node
needs limit node made (Refuted proof) is = absurd is
needs limit node made (Overflow basis p q i j) (e, below, dual, passes) = record { p = p; q = q; dual = dual }
needs limit node made (Budget pivots) (e, at, pivot) = pivot
needs limit node made OutOfMemory is = absurd is

-- and no move goes on from it
no_move : (limit : ℕ) (best : Option Best) (node : State) (rest : List State) (made : ℕ) (error : SearchError) (move : Move) → IsOutcome limit node made (Err error) → IsMove best node move
    → (after best node rest made move).made ≤ limit → ⊥
no_move limit best node rest made error (Pivot p q) is moves h = goes_not_on limit node made p q (Err error) is moves.0 moves.1 (omega (arith, h))
no_move limit best node rest made error (Ray p) is moves h = let n = needs limit node made error is in ray_has_none node p n.p n.q moves n.dual
no_move limit best node rest made error (Whole kept) is moves h = let n = needs limit node made error is in optimum_has_none node n.p n.q moves.optimum n.dual
no_move limit best node rest made error Pruned is moves h = let n = needs limit node made error is in optimum_has_none node n.p n.q moves.optimum n.dual
no_move limit best node rest made error (Branch j n) is moves h = let t = needs limit node made error is in optimum_has_none node t.p t.q moves.optimum t.dual

ending_within : (limit : ℕ) (at : Place) (ending : Result (Option Best) SearchError) → IsEnding limit at ending → at.made ≤ limit
ending_within limit at (Ok best) is = is.within
ending_within limit at (Err error) is = within limit is.node at.made (Err error) is.stop

goes_not : (limit : ℕ) (at other : Place) (ending : Result (Option Best) SearchError) → IsEnding limit at ending → Begins at other → other.made ≤ limit → ⊥
goes_not limit at other (Ok best) is b h = some_node b.node b.rest (sym is.closed ∙ ap (λ (a : Place). a.nodes) b.is)
goes_not limit at other (Err error) is b h =
    let of_nodes : is.node ∷ is.rest ≡ b.node ∷ b.rest = sym is.first ∙ ap (λ (a : Place). a.nodes) b.is in
    let of_node : is.node ≡ b.node = same_first is.node b.node is.rest b.rest of_nodes in
    let of_made : at.made ≡ b.made = ap (λ (a : Place). a.made) b.is in
    let rises = made_rises (after b.best b.node b.rest b.made b.move) other b.on in
    no_move limit b.best b.node b.rest b.made error b.move (subst₂ (λ n m. IsOutcome limit n m (Err error)) of_node of_made is.stop) b.moves (omega (arith, rises, h))

stays : (limit : ℕ) (at other : Place) (ending : Result (Option Best) SearchError) → IsEnding limit at ending → IsSearch at other → other.made ≤ limit → at ≡ other
stays limit at other ending is search h = by_first (begins at other search)
  where
    by_first : (at ≡ other) ⊎ Begins at other → at ≡ other
    by_first (inl e) = e
    by_first (inr b) = absurd (goes_not limit at other ending is b h)

recast : Result End SearchError → Result (Option Best) SearchError
recast (Ok end) = Ok None
recast (Err error) = Err error

same_ending : (limit : ℕ) (at : Place) (ending second : Result (Option Best) SearchError) → IsEnding limit at ending → IsEnding limit at second → ending ≡ second
unfolding recast
same_ending limit at (Ok best) (Ok other) is also = ap (λ b. Ok b) (sym is.found ∙ also.found)
same_ending limit at (Ok best) (Err error) is also = absurd (some_node also.node also.rest (sym is.closed ∙ also.first))
same_ending limit at (Err error) (Ok best) is also = absurd (some_node is.node is.rest (sym also.closed ∙ is.first))
same_ending limit at (Err error) (Err other) is also =
    let of_node : also.node ≡ is.node = same_first also.node is.node also.rest is.rest (sym also.first ∙ is.first) in
    ap recast (one_answer limit is.node at.made (Err error) (Err other) is.stop (subst (λ n. IsOutcome limit n at.made (Err other)) of_node also.stop))

pub one_ending_each : OneEnding
one_ending_each start at other limit ending second search is search' also =
    let same = meets (one_goes_on start other search' at search) in
    (same, same_ending limit at ending second is (subst (λ a. IsEnding limit a second) (sym same) also))
  where
    meets : IsSearch at other ⊎ IsSearch other at → at ≡ other
    meets (inl on) = stays limit at other ending is on (ending_within limit other second also)
    meets (inr back) = sym (stays limit other at second also back (ending_within limit at ending is))
