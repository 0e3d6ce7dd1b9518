-- What is drawn within the hosts of a rectangle is covered by them; strips of two masks that are kept clear share no cell.
use Rattle.std.proofs.Common.{ℕ, ℤ, pos, ◌≤ℤ◌, ◌<ℤ◌, ◌⊎◌, List, All, Contains, arith, inl, inr}
use Rattle.std.proofs.lemmas.Int.{ints, clamps, by_lt_z}
use Rattle.std.proofs.lemmas.List.Elements.{All-contains}
use Rattle.rt_cells.specs.Rectangles.{Rectangle, IsNonempty, Holds, columns_between, rows_between}
use Rattle.rt_family.specs.Strips.{ShareColumn, ShareRow, SpansColumns, HoldsCell, IsChain}
use Rattle.rt_family.specs.Carried.{AreFar, IsCarried, IsKeptClear}
use Rattle.rt_family.proofs.Places.{far_right, far_left, far_above, far_below}
use Rattle.rt_family.proofs.Chains.{spans_place, chain_holds}
use Rattle.rt_family.proofs.Columns.{chain_drawn}

-- a rectangle whose columns the drawn strips of a chain span, and whose rows lie between its drawn ends, is covered by the chain
pub drawn_hosts_cover : (member : ℕ → Type 0) (source drawn : ℕ → Rectangle) (w : ℤ) (s : ℕ → ℕ → ℤ) → IsCarried member source drawn w s
    → (first last : ℕ) (chain : List ℕ) → IsChain member source first chain last
    → (target : Rectangle) → All (λ k. SpansColumns (drawn k) target) chain → (drawn first).bottom ≤ℤ target.bottom → target.top ≤ℤ (drawn last).top
    → (x y : ℤ) → Holds target x y → (k : ℕ) × Contains chain k × HoldsCell member drawn k x y
drawn_hosts_cover member source drawn w s carried first last chain stacked target wide low high x y h =
    let r = chain_holds member drawn y first chain last (chain_drawn member source drawn w s carried first chain last stacked)
    (omega (arith, ints, h.row.from)) (omega (arith, ints, h.row.to)) in (
      r.0,
      r.1,
      record {
        strip = r.2;
        cell = record {
          column = spans_place (drawn r.0) target x (All-contains (λ k. SpansColumns (drawn k) target) chain r.0 wide r.1) h.column;
          row = r.3;
        };
      },
    )

no_rows_between : (near : ℤ) (a b : Rectangle) → pos 1 ≤ℤ near → ShareRow a b → IsNonempty a → IsNonempty b → rows_between a b <ℤ near
no_rows_between near a b p h k l = omega (arith, ints, clamps)

-- strips of two masks share a cell in the source, or are drawn the number apart
pub clear_apart : (first second : ℕ → Type 0) (source drawn : ℕ → Rectangle) (near clear : ℤ) → pos 1 ≤ℤ near → IsKeptClear first second source drawn near clear
    → (i j : ℕ) → first i → second j → IsNonempty (source i) → IsNonempty (source j)
    → (ShareColumn (source i) (source j) × ShareRow (source i) (source j)) ⊎ AreFar clear (drawn i) (drawn j)
clear_apart first second source drawn near clear p kept i j m n h k =
    by_lt_z (source i).bottom (source j).top
    (λ a. by_lt_z (source j).bottom (source i).top
    (λ b.
    let rows : ShareRow (source i) (source j) = record { first = a; second = b } in
    let few = no_rows_between near (source i) (source j) p rows h k in
    by_lt_z (source i).left (source j).right
    (λ c. by_lt_z (source j).left (source i).right
    (λ d. inl (record { first = c; second = d }, rows))
    (λ d. inr (inl (far_right clear (drawn i) (drawn j) (kept.right i j m n d few)))))
    (λ c. inr (inl (far_left clear (drawn i) (drawn j) (kept.left i j m n c few)))))
    (λ b. by_lt_z (columns_between (drawn i) (drawn j)) clear
    (λ c. inr (inr (far_above clear (drawn i) (drawn j) (kept.above i j m n b c))))
    (λ c. inr (inl c))))
    (λ a. by_lt_z (columns_between (drawn i) (drawn j)) clear
    (λ c. inr (inr (far_below clear (drawn i) (drawn j) (kept.below i j m n a c))))
    (λ c. inr (inl c)))
