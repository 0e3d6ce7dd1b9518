-- Each stage behind a line is what the grammar of certificates allows.
use Rattle.std.proofs.Common.{◌≡◌, ◌≢◌, Option, Some, None, ℕ, suc, zero, ◌+◌, ◌-◌, ◌^◌, ◌<◌, ◌≤◌, Bool, true, false, List, [], ◌∷◌, ◌++◌, ℤ, pos, negsuc, nat_abs, to_z, of_z, sym, ap, subst, ◌∙◌, append_assoc, refl, arith, add-one}
use Rattle.std.specs.Int.{w128}
use Rattle.std.specs.Int.RustNames.{FitsSigned}
use Rattle.cert_lines.proofs.Decimals.{strip_fits}
use Rattle.std.proofs.lemmas.Int.{ints, to_z-of_z}
use Rattle.rt_rows.specs.declared.row.Var.{Var}
use Rattle.rt_rows.specs.declared.proof.Of.{Of}
use Rattle.cert_lines.specs.declared.line.Line.{Line}
use Rattle.cert_lines.specs.declared.line.Line.TheVariants as line
use Rattle.cert_lines.specs.Limits.{IsNodeWithin, IsWithin}
use Rattle.cert_text.specs.declared.stage.Stage.{Stage}
use Rattle.cert_text.specs.declared.stage.Stage.TheVariants.{Title, Claim, Axis, Strips, Columns, Across, Tree, Over}
use Rattle.cert_text.specs.Wants.{shares, both_trees}
use Rattle.cert_text.specs.Wants.Want.{Strips as SomeStrips, Columns as SomeColumns, ATree}
use Rattle.cert_text.specs.Wants.Allows.{across as allow_across, axis as allow_axis, behind_columns as allow_behind_columns, behind_strips as allow_behind_strips, bound as allow_bound, branch as allow_branch, column as allow_column, cut as allow_cut, done as allow_done, empty as allow_empty, end_line as allow_end_line, no_axis as allow_no_axis, none_across as allow_none_across, none_upwards as allow_none_upwards, share as allow_share, strip as allow_strip, title as allow_title, upwards as allow_upwards}
use Rattle.cert_lines.specs.Read.{IsLine}
use Rattle.cert_text.specs.Reached.{IsOpen, IsStep}
use Rattle.cert_text.specs.Reached.IsRefused.{no_place}
use Rattle.cert_text.specs.Stages.{IsNext, behind, trees, wants_of, first_of, trees_in, Follows, IsBehind}

step_to : (old new : Stage) (l k : Line) → l ≡ k → Follows (wants_of old) k (wants_of new) → trees_in new ≤ trees_in old + 1 → IsBehind old l new
step_to old new l k is follows few = record { follows = subst (λ (x : Line). Follows (wants_of old) x (wants_of new)) (sym is) follows; few = few }

pub title_next : (l : Line) → l ≡ line.Title → IsBehind Title l Claim
title_next l is = step_to Title Claim l line.Title is ([], allow_title, refl) (omega arith)

pub done_next : (l : Line) (width height : ℤ) → l ≡ line.Done width height → IsBehind Claim l (Axis false)
done_next l width height is = step_to Claim (Axis false) l (line.Done width height) is (_, allow_done width height, refl) (omega arith)

pub none_across_next : (l : Line) → l ≡ line.NoneAcross → IsBehind Claim l Across
none_across_next l is = step_to Claim Across l line.NoneAcross is (_, allow_none_across, refl) (omega arith)

pub none_upwards_next : (l : Line) (width : ℤ) → l ≡ line.NoneUpwards width → IsBehind Claim l (Axis true)
none_upwards_next l width is = step_to Claim (Axis true) l (line.NoneUpwards width) is (_, allow_none_upwards width, refl) (omega arith)

pub no_axis_next : (columns : Bool) (l : Line) → l ≡ line.NoAxis → IsBehind (Axis columns) l (first_of columns)
no_axis_next true l is = step_to (Axis true) (Columns 0) l line.NoAxis is ([], allow_no_axis, refl) (omega arith)
no_axis_next false l is = step_to (Axis false) (Strips 0) l line.NoAxis is ([], allow_no_axis, refl) (omega arith)

pub axis_next : (columns : Bool) (l : Line) (twice : ℤ) → l ≡ line.Axis twice → IsBehind (Axis columns) l (first_of columns)
axis_next true l twice is = step_to (Axis true) (Columns 0) l (line.Axis twice) is ([], allow_axis twice, refl) (omega arith)
axis_next false l twice is = step_to (Axis false) (Strips 0) l (line.Axis twice) is ([], allow_axis twice, refl) (omega arith)

pub strip_next : (n : ℕ) (l : Line) (number left bottom right top : ℤ) → number ≡ pos n → l ≡ line.Strip number left bottom right top → IsBehind (Strips n) l (Strips (n + 1))
strip_next n l number left bottom right top same is =
    step_to (Strips n) (Strips (n + 1)) l (line.Strip (pos n) left bottom right top) (is ∙ ap (λ (z : ℤ). line.Strip z left bottom right top) same)
    (SomeStrips (suc n) ∷ [], allow_strip n left bottom right top, ap (λ (k : ℕ). SomeStrips k ∷ both_trees) (add-one n)) (omega arith)

pub behind_strips_next : (n : ℕ) (l : Line) → l ≡ line.Across → IsBehind (Strips n) l (Tree 0 1 false)
behind_strips_next n l is = step_to (Strips n) (Tree 0 1 false) l line.Across is ([], allow_behind_strips n, refl) (omega arith)

pub column_next : (n : ℕ) (l : Line) (number left right : ℤ) → number ≡ pos n → l ≡ line.Column number left right → IsBehind (Columns n) l (Columns (n + 1))
column_next n l number left right same is =
    step_to (Columns n) (Columns (n + 1)) l (line.Column (pos n) left right) (is ∙ ap (λ (z : ℤ). line.Column z left right) same)
    (SomeColumns (suc n) ∷ [], allow_column n left right, ap (λ (k : ℕ). SomeColumns k ∷ both_trees) (add-one n)) (omega arith)

pub behind_columns_next : (n : ℕ) (l : Line) → l ≡ line.Across → IsBehind (Columns n) l (Tree 0 1 false)
behind_columns_next n l is = step_to (Columns n) (Tree 0 1 false) l line.Across is ([], allow_behind_columns n, refl) (omega arith)

pub across_next : (l : Line) → l ≡ line.Across → IsBehind Across l (Tree 0 1 true)
across_next l is = step_to Across (Tree 0 1 true) l line.Across is ([], allow_across, refl) (omega arith)

pub share_next : (count unread : ℕ) (last : Bool) (l : Line) (times : ℤ) (of : Of) → 0 < count → l ≡ line.Share times of → IsBehind (Tree count unread last) l (Tree (count - 1) unread last)
share_next zero unread last l times of some is = absurd (omega (arith, some))
share_next (suc count) unread last l times of some is =
    let e : count ≡ suc count - 1 = omega arith in
    subst (λ (k : ℕ). IsBehind (Tree (suc count) unread last) l (Tree k unread last)) e
    (step_to (Tree (suc count) unread last) (Tree count unread last) l (line.Share times of) is ([], allow_share times of, refl) (omega arith))

pub branch_next : (unread : ℕ) (last : Bool) (l : Line) (var : Var) (at : ℤ) → 0 < unread → l ≡ line.Branch var at → IsBehind (Tree 0 unread last) l (Tree 0 (unread + 1) last)
branch_next zero last l var at some is = absurd (omega (arith, some))
branch_next (suc unread) last l var at some is =
    let e : suc (suc unread) ≡ suc unread + 1 = omega arith in
    subst (λ (k : ℕ). IsBehind (Tree 0 (suc unread) last) l (Tree 0 k last)) e
    (step_to (Tree 0 (suc unread) last) (Tree 0 (suc (suc unread)) last) l (line.Branch var at) is (ATree ∷ ATree ∷ [], allow_branch var at, refl) (omega arith))

-- how many shares follow a node
counted : (over count : ℤ) → IsNodeWithin over count → (k : ℕ) × (count ≡ pos k) × (nat_abs (to_z w128 (of_z w128 count)) ≡ k)
counted over (pos k) within =
    let small : k < 2 ^ 127 = omega (arith, ints, within.count.high) in
    (k, refl, ap nat_abs (to_z-of_z w128 (pos k) (record { sfits = small })))
counted over (negsuc k) within = absurd (omega (arith, ints, within.count.low))

pub cut_next : (unread : ℕ) (last : Bool) (l : Line) (over count : ℤ) → 0 < unread → IsWithin l → l ≡ line.Cut over count
    → IsBehind (Tree 0 unread last) l (Tree (nat_abs (to_z w128 (of_z w128 count))) unread last)
cut_next zero last l over count some within is = absurd (omega (arith, some))
cut_next (suc unread) last l over count some within is =
    let known = counted over count (subst IsWithin is within) in
    subst (λ (k : ℕ). IsBehind (Tree 0 (suc unread) last) l (Tree k (suc unread) last)) (sym known.2)
    (step_to (Tree 0 (suc unread) last) (Tree known.0 (suc unread) last) l (line.Cut over (pos known.0)) (is ∙ ap (line.Cut over) known.1)
    (shares known.0 ++ ATree ∷ [], allow_cut over known.0, sym (append_assoc (shares known.0) (ATree ∷ []) (trees unread ++ behind last))) (omega arith))

pub bound_next : (unread : ℕ) (last : Bool) (l : Line) (over count : ℤ) → 0 < unread → IsWithin l → l ≡ line.Bound over count
    → IsBehind (Tree 0 unread last) l (Tree (nat_abs (to_z w128 (of_z w128 count))) (unread - 1) last)
bound_next zero last l over count some within is = absurd (omega (arith, some))
bound_next (suc unread) last l over count some within is =
    let known = counted over count (subst IsWithin is within) in
    let e : unread ≡ suc unread - 1 = omega arith in
    subst (λ (k : ℕ). IsBehind (Tree 0 (suc unread) last) l (Tree k (suc unread - 1) last)) (sym known.2)
    (subst (λ (m : ℕ). IsBehind (Tree 0 (suc unread) last) l (Tree known.0 m last)) e
    (step_to (Tree 0 (suc unread) last) (Tree known.0 unread last) l (line.Bound over (pos known.0)) (is ∙ ap (line.Bound over) known.1)
    (shares known.0, allow_bound over known.0, refl) (omega arith)))

pub empty_next : (unread : ℕ) (last : Bool) (l : Line) (over count : ℤ) → 0 < unread → IsWithin l → l ≡ line.Empty over count
    → IsBehind (Tree 0 unread last) l (Tree (nat_abs (to_z w128 (of_z w128 count))) (unread - 1) last)
empty_next zero last l over count some within is = absurd (omega (arith, some))
empty_next (suc unread) last l over count some within is =
    let known = counted over count (subst IsWithin is within) in
    let e : unread ≡ suc unread - 1 = omega arith in
    subst (λ (k : ℕ). IsBehind (Tree 0 (suc unread) last) l (Tree k (suc unread - 1) last)) (sym known.2)
    (subst (λ (m : ℕ). IsBehind (Tree 0 (suc unread) last) l (Tree known.0 m last)) e
    (step_to (Tree 0 (suc unread) last) (Tree known.0 unread last) l (line.Empty over (pos known.0)) (is ∙ ap (line.Empty over) known.1)
    (shares known.0, allow_empty over known.0, refl) (omega arith)))

pub end_next : (last : Bool) (l : Line) → last ≡ true → l ≡ line.End → IsBehind (Tree 0 0 last) l Over
end_next true l so is = step_to (Tree 0 0 true) Over l line.End is ([], allow_end_line, refl) (omega arith)
end_next false l so is = absurd (cc)

pub upwards_next : (last : Bool) (l : Line) → last ≡ false → l ≡ line.Upwards → IsBehind (Tree 0 0 last) l (Tree 0 1 true)
upwards_next false l so is = step_to (Tree 0 0 false) (Tree 0 1 true) l line.Upwards is ([], allow_upwards, refl) (omega arith)
upwards_next true l so is = absurd (cc)

-- numbers that are compared in a type of 128 bits
same_number : (a b : ℤ) → FitsSigned w128 a → FitsSigned w128 b → of_z w128 a ≡ of_z w128 b → a ≡ b
same_number a b fits_a fits_b e = sym (to_z-of_z w128 a fits_a) ∙ ap (to_z w128) e ∙ to_z-of_z w128 b fits_b

pub strip_number : (n : ℕ) (number from : ℤ) (l : Line) (left bottom right top : ℤ) → IsWithin l → l ≡ line.Strip number left bottom right top → from ≡ pos n → FitsSigned w128 from
    → of_z w128 number ≡ of_z w128 from → number ≡ pos n
strip_number n number from l left bottom right top within is from_is small e =
    let known : IsWithin (line.Strip number left bottom right top) = subst IsWithin is within in
    same_number number from (strip_fits number known.strip) small e ∙ from_is

pub column_number : (n : ℕ) (number from : ℤ) (l : Line) (left right : ℤ) → IsWithin l → l ≡ line.Column number left right → from ≡ pos n → FitsSigned w128 from
    → of_z w128 number ≡ of_z w128 from → number ≡ pos n
column_number n number from l left right within is from_is small e =
    let known : IsWithin (line.Column number left right) = subst IsWithin is within in
    same_number number from (strip_fits number known.strip) small e ∙ from_is

-- something is wanted at each stage but the last
pub still_open : (stage : Stage) → stage ≢ Over → IsOpen stage
still_open Title differs = record { want = _; rest = _; some = refl }
still_open Claim differs = record { want = _; rest = _; some = refl }
still_open (Axis true) differs = record { want = _; rest = _; some = refl }
still_open (Axis false) differs = record { want = _; rest = _; some = refl }
still_open (Strips number) differs = record { want = _; rest = _; some = refl }
still_open (Columns number) differs = record { want = _; rest = _; some = refl }
still_open Across differs = record { want = _; rest = _; some = refl }
still_open (Tree (suc count) unread last) differs = record { want = _; rest = _; some = refl }
still_open (Tree zero (suc unread) last) differs = record { want = _; rest = _; some = refl }
still_open (Tree zero zero true) differs = record { want = _; rest = _; some = refl }
still_open (Tree zero zero false) differs = record { want = _; rest = _; some = refl }
still_open Over differs = absurd (differs refl)

-- what a line that was read does here
pub is_step : (stage : Stage) (text : List ℕ) (l : Line) (answer : Option Stage) → IsLine text l → IsNext stage l answer → IsStep stage text answer
is_step stage text l None is stuck = no_place l is stuck
is_step stage text l (Some new) is behind = record { line = l; is = is; behind = behind }
