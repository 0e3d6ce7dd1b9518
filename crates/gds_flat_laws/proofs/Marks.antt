-- What holds of the items of a flat cell, and with them of its labels.
use Rattle.std.proofs.Common.{◌≡◌, List, [], ◌∷◌, All, Option, Some, None, refl}
use Rattle.std.specs.List.{cons_option}
use Rattle.std.proofs.lemmas.List.Elements.{All-nil, All-cons, All-head, All-tail}
use Rattle.rt_layout.specs.declared.layout.Label.{Label}
use Rattle.gds_flat.specs.Items.{Piece, mark_of_drawing, marks_of}

one_more : (Q : Label → Type 0) (mark : Option Label) (rest : List Label) → ((label : Label) → mark ≡ Some label → Q label) → All Q rest → All Q (cons_option mark rest)
one_more Q None rest each all = all
one_more Q (Some label) rest each all = All-cons Q label rest (each label refl) all

-- what each item gives its label, all labels have
pub marks_have : (P : Piece → Type 0) (Q : Label → Type 0) → ((p : Piece) (label : Label) → mark_of_drawing p.mask p.drawing ≡ Some label → P p → Q label)
    → (pieces : List Piece) → All P pieces → All Q (marks_of pieces)
marks_have P Q each [] all = All-nil Q
marks_have P Q each (p ∷ pieces) all =
    one_more Q (mark_of_drawing p.mask p.drawing) (marks_of pieces) (λ label e. each p label e (All-head P p pieces all))
    (marks_have P Q each pieces (All-tail P p pieces all))
