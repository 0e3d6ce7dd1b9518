-- Rules are kept and broken alike by predicates that hold of the same cells.
use Rattle.std.proofs.Common.{◌≡◌, ℕ, ◌<◌, ℤ, pos, ◌+ℤ◌, ◌*ℤ◌, List, [], ◌∷◌, ◌++◌, All, Option, Some, None, IfSome, refl, subst, inl, inr}
use Rattle.std.proofs.lemmas.List.Elements.{All-nil, All-cons, All-head, All-tail}
use Rattle.std.proofs.lemmas.Option.{slice_get_within}
use Rattle.rt_base.specs.declared.plane.Cell.{Cell}
use Rattle.rt_cells.specs.Line.{IsRun, IsGap}
use Rattle.rt_cells.specs.Cells.{row_of, transposed, Joined, MeetAtCornerAlone}
use Rattle.rt_cells.specs.Cells.Joined.{here, onward}
use Rattle.rt_cells.specs.Rectangles.{Rectangle}
use Rattle.rt_tech.specs.declared.rules.RuleName.{RuleName}
use Rattle.rt_tech.specs.declared.rules.RuleName.TheVariants.{Width, Space, Size, Enclose, Cap, Ext, Cross, Apart}
use Rattle.rt_tech.specs.declared.rules.RuleError.{RuleError}
use Rattle.rt_tech.specs.declared.rules.RuleError.TheVariants.{Broken, OutOfMemory}
use Rattle.rt_tech.specs.declared.table.Apart.{Apart as Distance}
use Rattle.rt_tech.specs.declared.table.Enclose.{Enclose as Enclosure}
use Rattle.rt_tech.specs.declared.table.Role.{Role as MaskRole}
use Rattle.rt_tech.specs.declared.table.Role.TheVariants.{Metal, Gate, Active, Cut, Background}
use Rattle.rt_tech.specs.declared.table.Tech.{Tech}
use Rattle.rt_tech.specs.Tech.{mask_count}
use Rattle.rt_rules.specs.Width.{KeepsWidthAlongRows, KeepsWidth, WidthBreachAlongRows, WidthBreach}
use Rattle.rt_rules.specs.Space.{KeepsGapsAlongRows, KeepsSpace, IsNarrowGap, SpaceBreach}
use Rattle.rt_rules.specs.Cuts.{KeepsSize, SizeBreach, KeepsEnclosed, EnclosureBreach, KeepsApart, ApartBreach}
use Rattle.rt_rules.specs.Pairs.{enclose_at, apart_at, lower_of, HasMeasuredPairs}
use Rattle.rt_rules.specs.Pieces.{IsPieceAt, LiesIn}
use Rattle.rt_rules.specs.Rules.{rule_by_role, rules_of, part_of, KeepsEnclose, KeepsDistance, ShowsEnclose, ShowsDistance, Keeps, Shows, BreaksNoRule, IsFirstBreach, IsBreachOf}
use Rattle.rt_rules.proofs.First.{at_split}
use Rattle.rt_rules.proofs.Listed.{rules_all}
use Rattle.rt_rules.proofs.Measured.{enclose_named, apart_named}
use Rattle.rt_rules.proofs.Pieces.{piece_along}

-- the two hold of the same cells
pub record AreAlike (P Q : ℤ → ℤ → Type 0) : Type 0 where
  pub to : (x y : ℤ) → P x y → Q x y
  pub from : (x y : ℤ) → Q x y → P x y

pub turned_alike : (P Q : ℤ → ℤ → Type 0) → AreAlike P Q → AreAlike (transposed P) (transposed Q)
turned_alike P Q alike = record { to = λ x y. alike.to y x; from = λ x y. alike.from y x }

pub alike_back : (P Q : ℤ → ℤ → Type 0) → AreAlike P Q → AreAlike Q P
alike_back P Q alike = record { to = alike.from; from = alike.to }

module _ (P Q : ℤ → ℤ → Type 0) (alike : AreAlike P Q) where
  pub run_alike : (y a b : ℤ) → IsRun (row_of Q y) a b → IsRun (row_of P y) a b
  run_alike y a b run = record {
    nonempty = run.nonempty;
    inside = λ x h. alike.from x y (run.inside x h);
    before = λ p. run.before (alike.to _ y p);
    after = λ p. run.after (alike.to b y p);
  }

  pub gap_alike : (y a b : ℤ) → IsGap (row_of Q y) a b → IsGap (row_of P y) a b
  gap_alike y a b gap = record {
    nonempty = gap.nonempty;
    empty = λ x h p. gap.empty x h (alike.to x y p);
    before = alike.from _ y gap.before;
    after = alike.from b y gap.after;
  }

  -- the width rule is kept alike along rows
  pub rows_alike : (w : ℤ) → KeepsWidthAlongRows w P → KeepsWidthAlongRows w Q
  rows_alike w keeps = record {
    runs = λ y a b run. keeps.runs y a b (run_alike y a b run);
    shared = λ y a b a' b' run run' touch. keeps.shared y a b a' b' (run_alike y a b run) (run_alike _ a' b' run') touch;
  }

  gaps_alike : (s : ℤ) → KeepsGapsAlongRows s P → KeepsGapsAlongRows s Q
  gaps_alike s keeps y a b gap = keeps y a b (gap_alike y a b gap)

  pub joined_alike : (x y u v : ℤ) → Joined P x y u v → Joined Q x y u v
  joined_alike x y u v (here c) = here (alike.to x y c)
  joined_alike x y u v (onward p q _ _ walk next c) = onward p q u v (joined_alike x y p q walk) next (alike.to u v c)

  corner_alike : (x y u v : ℤ) → MeetAtCornerAlone Q x y u v → MeetAtCornerAlone P x y u v
  corner_alike x y u v meet = record {
    first = alike.from x y meet.first;
    second = alike.from u v meet.second;
    columns = meet.columns;
    rows = meet.rows;
    beside_first = λ c. meet.beside_first (alike.to u y c);
    beside_second = λ c. meet.beside_second (alike.to x v c);
  }

  -- it is shown broken alike along rows
  pub rows_breach_alike : (w x y u v found : ℤ) → WidthBreachAlongRows w Q x y u v found → WidthBreachAlongRows w P x y u v found
  rows_breach_alike w x y u v found (inl b) = inl (record {
    one_row = b.one_row;
    run = run_alike y x (u +ℤ pos 1) b.run;
    cells_found = b.cells_found;
    short = b.short;
  })
  rows_breach_alike w x y u v found (inr b) = inr (record {
    row = b.row;
    low = b.low;
    high = b.high;
    low' = b.low';
    high' = b.high';
    run = run_alike b.row b.low b.high b.run;
    next_run = run_alike (b.row +ℤ pos 1) b.low' b.high' b.next_run;
    touch = b.touch;
    first_end = b.first_end;
    last_end = b.last_end;
    on_either_row = b.on_either_row;
    one_row = b.one_row;
    columns_found = b.columns_found;
    short = b.short;
  })

  gap_breach_alike : (s x y u v found : ℤ) → IsNarrowGap s Q x y u v found → IsNarrowGap s P x y u v found
  gap_breach_alike s x y u v found b = record {
    one_row = b.one_row;
    gap = gap_alike y (x +ℤ pos 1) u b.gap;
    cells_found = b.cells_found;
    short = b.short;
  }

-- the width rule is kept alike
pub width_alike : (P Q : ℤ → ℤ → Type 0) → AreAlike P Q → (w : ℤ) → KeepsWidth w P → KeepsWidth w Q
width_alike P Q alike w keeps = record {
  rows = rows_alike P Q alike w keeps.rows;
  columns = rows_alike (transposed P) (transposed Q) (turned_alike P Q alike) w keeps.columns;
}

-- the space rule is kept alike
pub space_alike : (P Q : ℤ → ℤ → Type 0) → AreAlike P Q → (s : ℤ) → KeepsSpace s P → KeepsSpace s Q
space_alike P Q alike s keeps = record {
  rows = gaps_alike P Q alike s keeps.rows;
  columns = gaps_alike (transposed P) (transposed Q) (turned_alike P Q alike) s keeps.columns;
  pieces = λ x y u v c d. elim (keeps.pieces x y u v (alike.from x y c) (alike.from u v d)) [
    | inl walk ↦ inl (joined_alike P Q alike x y u v walk)
    | inr far ↦ inr far
  ];
  corners = λ x y u v meet. keeps.corners x y u v (corner_alike P Q alike x y u v meet);
}

-- the width rule is shown broken alike
pub width_breach_alike : (P Q : ℤ → ℤ → Type 0) → AreAlike P Q → (w x y u v found : ℤ) → WidthBreach w P x y u v found → WidthBreach w Q x y u v found
width_breach_alike P Q alike w x y u v found (inl b) = inl (rows_breach_alike Q P (alike_back P Q alike) w x y u v found b)
width_breach_alike P Q alike w x y u v found (inr b) =
    inr (rows_breach_alike (transposed Q) (transposed P) (turned_alike Q P (alike_back P Q alike)) w y x v u found b)

-- the space rule is shown broken alike
pub space_breach_alike : (P Q : ℤ → ℤ → Type 0) → AreAlike P Q → (s x y u v found : ℤ) → SpaceBreach s P x y u v found → SpaceBreach s Q x y u v found
space_breach_alike P Q alike s x y u v found (inl (inl b)) = inl (inl (gap_breach_alike Q P (alike_back P Q alike) s x y u v found b))
space_breach_alike P Q alike s x y u v found (inl (inr b)) =
    inl (inr (gap_breach_alike (transposed Q) (transposed P) (turned_alike Q P (alike_back P Q alike)) s y x v u found b))
space_breach_alike P Q alike s x y u v found (inr (inl b)) = inr (inl (record {
  first = alike.to x y b.first;
  second = alike.to u v b.second;
  different = λ walk. b.different (joined_alike Q P (alike_back P Q alike) x y u v walk);
  gap_found = b.gap_found;
  short = b.short;
}))
space_breach_alike P Q alike s x y u v found (inr (inr b)) = inr (inr (record {
  contact = corner_alike Q P (alike_back P Q alike) x y u v b.contact;
  none_found = b.none_found;
  short = b.short;
}))

-- a piece is one of cells that are the same
pub piece_at_alike : (P Q : ℤ → ℤ → Type 0) → AreAlike P Q → (x y : ℤ) (r : Rectangle) → IsPieceAt P x y r → IsPieceAt Q x y r
piece_at_alike P Q alike x y r at = record { piece = piece_along P Q alike.to alike.from r at.piece; holds = at.holds }

-- the size rule is kept alike, and shown broken alike
pub size_alike : (P Q : ℤ → ℤ → Type 0) → AreAlike P Q → (size : ℤ) → KeepsSize size P → KeepsSize size Q
size_alike P Q alike size keeps x y c =
    let (r, square, at) = keeps x y (alike.from x y c) in
    (r, square, piece_at_alike P Q alike x y r at)

pub size_breach_alike : (P Q : ℤ → ℤ → Type 0) → AreAlike P Q → (size x y u v found : ℤ) → SizeBreach size P x y u v found → SizeBreach size Q x y u v found
size_breach_alike P Q alike size x y u v found b = record {
  r = b.r;
  piece = piece_along P Q alike.to alike.from b.r b.piece;
  left = b.left;
  bottom = b.bottom;
  right = b.right;
  top = b.top;
  extent_found = b.extent_found;
  another = b.another;
}

-- pieces lie in others alike
pub lies_alike : (P Q R S : ℤ → ℤ → Type 0) → AreAlike P Q → AreAlike R S → (x y : ℤ) → LiesIn P R x y → LiesIn Q S x y
lies_alike P Q R S alike others x y lies = record {
  cell = alike.to x y lies.cell;
  lies = λ u v walk. others.to u v (lies.lies u v (joined_alike Q P (alike_back P Q alike) x y u v walk));
}

module _ (P Q R S : ℤ → ℤ → Type 0) (alike : AreAlike P Q) (others : AreAlike R S) (number : ℤ) where
  -- an enclosure is kept alike, and shown broken alike
  pub enclosed_alike : KeepsEnclosed number P R → KeepsEnclosed number Q S
  enclosed_alike keeps x y u v c within = others.to u v (keeps x y u v (alike.from x y c) within)

  pub enclosure_breach_alike : (x y u v found : ℤ) → EnclosureBreach number P R x y u v found → EnclosureBreach number Q S x y u v found
  enclosure_breach_alike x y u v found b = record {
    first = alike.to x y b.first;
    within = b.within;
    missing = λ c. b.missing (others.from u v c);
    gap_found = b.gap_found;
    short = b.short;
  }

  -- a distance is kept alike, and shown broken alike
  pub apart_alike : KeepsApart number P R → KeepsApart number Q S
  apart_alike keeps x y u v c d = keeps x y u v (alike.from x y c) (others.from u v d)

  pub apart_breach_alike : (x y u v found : ℤ) → ApartBreach number P R x y u v found → ApartBreach number Q S x y u v found
  apart_breach_alike x y u v found b = record {
    first = alike.to x y b.first;
    second = others.to u v b.second;
    gap_found = b.gap_found;
    short = b.short;
  }

-- a mask that the rule of a mask names has a number below the count
abbrev pub NamesBelow : ℕ → RuleName → Type 0
NamesBelow count (Width m) = m < count
NamesBelow count (Space m) = m < count
NamesBelow count (Size m) = m < count
NamesBelow count _ = Unit {0}

shape_below : (m count : ℕ) (role : MaskRole) → m < count → NamesBelow count (rule_by_role role m)
shape_below m count Cut h = h
shape_below m count Metal h = h
shape_below m count Gate h = h
shape_below m count Active h = h
shape_below m count Background h = h

-- the rules of a table name its masks
pub rules_name_masks : (tech : Tech) → All (NamesBelow (mask_count tech)) (rules_of tech)
rules_name_masks tech =
    rules_all (NamesBelow (mask_count tech)) tech
    (λ m mask at.
    let below = slice_get_within tech.masks m mask at in
    (shape_below m (mask_count tech) mask.role below, below))
    (λ n h. record {}) (λ n h. record {})

before_split : {X : Type 0} (P : X → Type 0) (xs ys : List X) → All P (xs ++ ys) → All P xs
before_split P [] ys all = All-nil P
before_split P (x ∷ xs) ys all = All-cons P x xs (All-head P x (xs ++ ys) all) (before_split P xs ys (All-tail P x (xs ++ ys) all))

module _ (unit : ℤ) (tech : Tech) (pairs : HasMeasuredPairs tech) (P Q : ℕ → ℤ → ℤ → Type 0) (alike : (m : ℕ) → m < mask_count tech → AreAlike (P m) (Q m)) where
  -- the cells that a rule counts are the same
  pub part_alike : (m : ℕ) (on : Option ℕ) → m < mask_count tech → IfSome on (λ l. l < mask_count tech) → AreAlike (part_of P m on) (part_of Q m on)
  part_alike m None h g = alike m h
  part_alike m (Some l) h g = record {
    to = lies_alike (P m) (Q m) (P l) (Q l) (alike m h) (alike l g);
    from = lies_alike (Q m) (P m) (Q l) (P l) (alike_back (P m) (Q m) (alike m h)) (alike_back (P l) (Q l) (alike l g));
  }

  enclose_kept : (n : ℕ) (o : Option Enclosure) → enclose_at tech n ≡ o → KeepsEnclose unit tech P o → KeepsEnclose unit tech Q o
  enclose_kept n None at k = k
  enclose_kept n (Some e) at k =
      let (cut, lower, mask) = enclose_named tech pairs n e at in
      enclosed_alike _ (part_of Q e.cut (lower_of tech e)) (P e.mask) (Q e.mask) (part_alike e.cut (lower_of tech e) cut lower) (alike e.mask mask) (unit *ℤ e.number) k

  enclose_shown : (n : ℕ) (o : Option Enclosure) → enclose_at tech n ≡ o → (p q : Cell) (found : ℤ) → ShowsEnclose unit tech P o p q found → ShowsEnclose unit tech Q o p q found
  enclose_shown n None at p q found b = b
  enclose_shown n (Some e) at p q found b =
      let (cut, lower, mask) = enclose_named tech pairs n e at in
      enclosure_breach_alike _ (part_of Q e.cut (lower_of tech e)) (P e.mask) (Q e.mask) (part_alike e.cut (lower_of tech e) cut lower) (alike e.mask mask) (unit *ℤ e.number) p.x p.y q.x q.y found b

  distance_kept : (n : ℕ) (o : Option Distance) → apart_at tech n ≡ o → KeepsDistance unit tech P o → KeepsDistance unit tech Q o
  distance_kept n None at k = k
  distance_kept n (Some a) at k =
      let (first, lower, second) = apart_named tech pairs n a at in
      apart_alike _ (part_of Q a.a a.on) (P a.b) (Q a.b) (part_alike a.a a.on first lower) (alike a.b second) (unit *ℤ a.number) k

  distance_shown : (n : ℕ) (o : Option Distance) → apart_at tech n ≡ o → (p q : Cell) (found : ℤ) → ShowsDistance unit tech P o p q found → ShowsDistance unit tech Q o p q found
  distance_shown n None at p q found b = b
  distance_shown n (Some a) at p q found b =
      let (first, lower, second) = apart_named tech pairs n a at in
      apart_breach_alike _ (part_of Q a.a a.on) (P a.b) (Q a.b) (part_alike a.a a.on first lower) (alike a.b second) (unit *ℤ a.number) p.x p.y q.x q.y found b

  keeps_alike : (rule : RuleName) → NamesBelow (mask_count tech) rule → Keeps unit tech P rule → Keeps unit tech Q rule
  keeps_alike (Width m) h k = width_alike (P m) (Q m) (alike m h) _ k
  keeps_alike (Space m) h k = space_alike (P m) (Q m) (alike m h) _ k
  keeps_alike (Size m) h k = size_alike (P m) (Q m) (alike m h) _ k
  keeps_alike (Enclose n) h k = enclose_kept n (enclose_at tech n) refl k
  keeps_alike Cap h k = k
  keeps_alike Ext h k = k
  keeps_alike Cross h k = k
  keeps_alike (Apart n) h k = distance_kept n (apart_at tech n) refl k

  shows_alike : (rule : RuleName) → NamesBelow (mask_count tech) rule → (p q : Cell) (found : ℤ) → Shows unit tech P rule p q found → Shows unit tech Q rule p q found
  shows_alike (Width m) h p q found b = width_breach_alike (P m) (Q m) (alike m h) _ p.x p.y q.x q.y found b
  shows_alike (Space m) h p q found b = space_breach_alike (P m) (Q m) (alike m h) _ p.x p.y q.x q.y found b
  shows_alike (Size m) h p q found b = size_breach_alike (P m) (Q m) (alike m h) _ p.x p.y q.x q.y found b
  shows_alike (Enclose n) h p q found b = enclose_shown n (enclose_at tech n) refl p q found b
  shows_alike Cap h p q found b = b
  shows_alike Ext h p q found b = b
  shows_alike Cross h p q found b = b
  shows_alike (Apart n) h p q found b = distance_shown n (apart_at tech n) refl p q found b

  all_alike : (rules : List RuleName) → All (NamesBelow (mask_count tech)) rules → All (Keeps unit tech P) rules → All (Keeps unit tech Q) rules
  all_alike [] h all = All-nil (Keeps unit tech Q)
  all_alike (rule ∷ rules) h all =
      All-cons (Keeps unit tech Q) rule rules
      (keeps_alike rule (All-head (NamesBelow (mask_count tech)) rule rules h) (All-head (Keeps unit tech P) rule rules all))
      (all_alike rules (All-tail (NamesBelow (mask_count tech)) rule rules h) (All-tail (Keeps unit tech P) rule rules all))

  -- cells that are the same on each mask of the table break no rule of it alike
  pub breaks_none_alike : BreaksNoRule unit tech P → BreaksNoRule unit tech Q
  breaks_none_alike none = record { all = all_alike (rules_of tech) (rules_name_masks tech) none.all }

  -- and the first rule that they break is the same
  pub first_breach_alike : (rule : RuleName) (p q : Cell) (found needed : ℤ) → IsFirstBreach unit tech P rule p q found needed → IsFirstBreach unit tech Q rule p q found needed
  first_breach_alike rule p q found needed first =
      let named = subst (λ (z : List RuleName). All (NamesBelow (mask_count tech)) z) first.in_order (rules_name_masks tech) in
      record {
        before = first.before;
        after = first.after;
        in_order = first.in_order;
        kept = all_alike first.before (before_split (NamesBelow (mask_count tech)) first.before (rule ∷ first.after) named) first.kept;
        shown = shows_alike rule (at_split (NamesBelow (mask_count tech)) first.before rule first.after named) p q found first.shown;
        number = first.number;
      }

  -- so a refusal of a check says the same of both
  pub refusal_alike : (error : RuleError) → IsBreachOf unit tech P error → IsBreachOf unit tech Q error
  refusal_alike (Broken rule p q found needed) first = first_breach_alike rule p q found needed first
  refusal_alike OutOfMemory none = none
