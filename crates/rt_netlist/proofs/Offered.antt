-- The public laws, from the lemmas over any cells.
use Rattle.std.proofs.Common.{ℕ, ◌<◌, ℤ, pos, ◌≤ℤ◌, List, length, slice_index, refl, sym, ◌∙◌, subst, arith}
use Rattle.std.proofs.lemmas.Int.{ints}
use Rattle.std.proofs.lemmas.List.{ext_get_or}
use Rattle.rt_layout.specs.declared.layout.Label.{Label}
use Rattle.rt_layout.specs.Covering.{MaskCovers}
use Rattle.rt_tech.specs.declared.table.Tech.{Tech}
use Rattle.rt_rules.proofs.Alike.{AreAlike, alike_back}
use Rattle.rt_links.proofs.Numbered.{nets_numbered}
use Rattle.rt_netlist.specs.Labels.{AreOnOneNet, Extracts}
use Rattle.rt_netlist.specs.Laws
use Rattle.rt_netlist.proofs.Alike.{AreToldAlike, labels_alike, extracts_by}
use Rattle.rt_netlist.proofs.OneNet.{label_on_net, number_tells}

one_is_some : pos 1 ≤ℤ pos 1
one_is_some = omega (arith, ints)

pub one_list_of_numbers : Laws.OneListOfNumbers
one_list_of_numbers tech layout numbers others one two =
    let same = AreOnOneNet tech (MaskCovers layout) layout.labels in
    ext_get_or 0 numbers others (one.counted ∙ sym two.counted)
    (λ i below.
    nets_numbered (length layout.labels) same same (λ a b l m s. s) (λ a b l m s. s) one.fresh (λ a. slice_index numbers a) two.fresh (λ a. slice_index others a)
    one.numbered two.numbered i (subst (λ n. i < n) one.counted below))

-- cells that are the same on all masks
pub same_cells : (tech : Tech) (P Q : ℕ → ℤ → ℤ → Type 0) → ((m : ℕ) → AreAlike (P m) (Q m)) → AreToldAlike tech tech P Q
same_cells tech P Q alike = record {
  metal = λ m is. is;
  upper = λ m u is. is;
  lower = λ m l is. is;
  lower_back = λ m l is. is;
  metals = λ m is. alike m;
  cuts = λ m l is. alike m;
  lowers = λ m l is. alike l;
}

-- labels on cells that are the same on all masks have the same numbers
pub extracts_alike : (tech : Tech) (P Q : ℕ → ℤ → ℤ → Type 0) → ((m : ℕ) → AreAlike (P m) (Q m)) → (labels : List Label) (numbers : List ℕ)
    → Extracts tech P labels numbers → Extracts tech Q labels numbers
extracts_alike tech P Q alike labels numbers =
    extracts_by tech tech P Q labels labels refl
    (λ a b l m. labels_alike tech tech P Q (same_cells tech P Q alike) labels a b)
    (λ a b l m. labels_alike tech tech Q P (same_cells tech Q P (λ k. alike_back (P k) (Q k) (alike k))) labels a b) numbers

pub alike_layouts_extract_alike : Laws.AlikeLayoutsExtractAlike
alike_layouts_extract_alike tech one other same labels numbers =
    let alike : (m : ℕ) → AreAlike (MaskCovers one m) (MaskCovers other m) = λ m. record { to = λ x y. (same m x y).0; from = λ x y. (same m x y).1 } in (
      extracts_alike tech (MaskCovers one) (MaskCovers other) alike labels numbers,
      extracts_alike tech (MaskCovers other) (MaskCovers one) (λ m. alike_back (MaskCovers one m) (MaskCovers other m) (alike m)) labels numbers,
    )

pub labels_are_on_one_net : Laws.LabelsAreOnOneNet
labels_are_on_one_net tech measured layout none labels a p q one two =
    label_on_net tech (MaskCovers layout) (pos 1) one_is_some measured none labels a p q one two

pub numbers_tell_nets : Laws.NumbersTellNets
numbers_tell_nets tech measured layout none labels numbers is a b l m p q on other =
    number_tells tech (MaskCovers layout) (pos 1) one_is_some measured none labels numbers is a b l m p q on other
