-- Going back along a trail.
use Rattle.std.proofs.Common.{◌≡◌, ℕ, suc, ◌-◌, ◌<◌, ◌≤◌, List, [], ◌∷◌, ◌++◌, length, get_or, drop, reverse, refl, sym, ap, subst, ◌∙◌, length-append, arith}
use Rattle.std.proofs.lemmas.List.{get_or-take, length-take, length-reverse, reverse-append}
use Rattle.rt_rows.specs.declared.row.Row.{Row}
use Rattle.rt_solved.specs.Systems.{no_row}
use Rattle.rt_tableau.specs.States.{State, IsSmallTable}
use Rattle.rt_tableau.specs.Starts.{HaveColumns}
use Rattle.rt_tableau.specs.Dropped.{AreNamed}
use Rattle.rt_branch.specs.declared.parts.Change.{Change}
use Rattle.rt_branch.specs.declared.parts.Change.TheVariants.{Exchanged, Added}
use Rattle.rt_branch.specs.Trails.{LedTo, undone_state, CanUndo}
use Rattle.rt_branch.specs.Going.{CanGoBack, IsGoneBack}
use Rattle.rt_branch.proofs.GoingBack.{changes_are_undone_each}

-- the latest of a list stands first in the list reversed
pub latest_first : {A : Type 0} (xs : List A) (x : A) → reverse (xs ++ x ∷ []) ≡ x ∷ reverse xs
latest_first xs x = reverse-append xs (x ∷ [])

pub popped : {A : Type 0} (xs ys : List A) (x : A) → xs ≡ ys ++ x ∷ [] → reverse xs ≡ x ∷ reverse ys
popped xs ys x e = ap reverse e ∙ latest_first ys x

-- undoing the latest change of a trail
record IsUndone (change : Change) (rest older : List Change) (parent state : State) : Type 0 where
  can : CanUndo state change
  small : IsSmallTable (undone_state state change)
  later : List Change
  rest_is : rest ≡ later ++ older
  led : LedTo later parent (undone_state state change)

undone : (change : Change) (rest older later : List Change) (parent state : State) → change ∷ rest ≡ later ++ older → length older < length (change ∷ rest) → LedTo later parent state
    → IsUndone change rest older parent state
undone change rest older [] parent state e h led = absurd (let l = ap length e in omega (arith, l, h))
undone change rest older (first ∷ later) parent state e h led =
    let same : change ≡ first = ap (λ xs. get_or xs 0 change) e in
    let told = changes_are_undone_each change later parent state (subst (λ c. LedTo (c ∷ later) parent state) (sym same) led) in
    record { can = told.0; small = told.1; later = later; rest_is = ap (λ xs. drop 1 xs) e; led = told.2 }

-- rows that are named are so in the state with a change undone
pub named_undone : (change : Change) (state : State) → AreNamed state.system → AreNamed (undone_state state change).system
named_undone (Exchanged p column) state named = named
named_undone Added state named = record {
  each = λ d h.
      let l = length-take (length state.system.rows - 1) state.system.rows in
      subst (λ (r : Row). HaveColumns state.system.strips r.terms) (sym (get_or-take (length state.system.rows - 1) state.system.rows d no_row (omega (arith, l, h)))) (named.each d (omega (arith, l, h)));
}

-- what a loop keeps that goes back
pub record IsGoingBack (count : ℕ) (trail : List Change) (state : State) (left : List Change) (new : State) : Type 0 where
  pub named : AreNamed new.system
  pub can : CanGoBack count left new
  pub same : (older later : List Change) (parent : State) → trail ≡ later ++ older → length older ≡ count → LedTo later parent state
      → (rest : List Change) × (left ≡ rest ++ older) × LedTo rest parent new

pub back_begun : (count : ℕ) (trail : List Change) (state : State) → AreNamed state.system → CanGoBack count trail state → IsGoingBack count trail state trail state
back_begun count trail state named can = record { named = named; can = can; same = λ older later parent e f led. (later, e, led) }

module _ (count : ℕ) (trail : List Change) (state : State) (left : List Change) (new : State) (going : IsGoingBack count trail state left new) (change : Change) (rest : List Change) (is : left ≡ change ∷ rest)
    (more : count < length left) where
  undone_here : (older later : List Change) (parent : State) → left ≡ later ++ older → length older ≡ count → LedTo later parent new → IsUndone change rest older parent new
  undone_here older later parent e f led = undone change rest older later parent new (sym is ∙ e) (let l = ap length is in omega (arith, l, more, f)) led

  pub can_undo : CanUndo new change
  can_undo = (undone_here going.can.older going.can.later going.can.parent going.can.trail_is going.can.length_is going.can.led).can

  pub small_undone : IsSmallTable (undone_state new change)
  small_undone = (undone_here going.can.older going.can.later going.can.parent going.can.trail_is going.can.length_is going.can.led).small

  pub back_further : IsGoingBack count trail state rest (undone_state new change)
  back_further =
      let first = undone_here going.can.older going.can.later going.can.parent going.can.trail_is going.can.length_is going.can.led in
      record {
        named = named_undone change new going.named;
        can = record { older = going.can.older; parent = going.can.parent; later = first.later; trail_is = first.rest_is; length_is = going.can.length_is; led = first.led };
        same = λ older later parent e f led.
            let before = going.same older later parent e f led in
            let after = undone_here older before.0 parent before.1 f before.2 in
            (after.later, after.rest_is, after.led);
      }

none_later : (xs ys left : List Change) → left ≡ xs ++ ys → length left ≤ length ys → xs ≡ []
none_later [] ys left e h = refl
none_later (x ∷ xs) ys left e h = absurd (let l = ap length e ∙ ap suc (length-append xs ys) in omega (arith, l, h))

pub back_at_last : (count : ℕ) (trail : List Change) (state : State) (left : List Change) (new : State) → IsGoingBack count trail state left new → length left ≤ count → IsGoneBack count trail state left new
back_at_last count trail state left new going h older later parent e f led =
    let told = going.same older later parent e f led in
    let none = none_later told.0 older left told.1 (omega (arith, h, f)) in
    (told.1 ∙ ap (λ xs. xs ++ older) none, sym (subst (λ xs. LedTo xs parent new) none told.2))

-- more are there than are to be left, as code counts them
pub more_there : (changes : List Change) (count found len : ℕ) → count < found → found ≡ len → len ≡ length changes → count < length (reverse changes)
more_there changes count found len h e f = let l = length-reverse changes in omega (arith, h, e, f, l)
