-- Joined cells: both ways, and one walk after another.
use Rattle.std.proofs.Common.{ℤ, sym, inl, inr}
use Rattle.rt_cells.specs.Cells.{Adjacent, ShareSide, Joined}
use Rattle.rt_cells.specs.Cells.Joined.{here, onward}

pub turned_adjacent : (p q : ℤ) → Adjacent p q → Adjacent q p
turned_adjacent p q (inl e) = inr e
turned_adjacent p q (inr e) = inl e

-- a side is shared both ways
pub turned_side : (x y u v : ℤ) → ShareSide x y u v → ShareSide u v x y
turned_side x y u v (inl h) = inl (turned_adjacent x u h.0, sym h.1)
turned_side x y u v (inr h) = inr (sym h.0, turned_adjacent y v h.1)

-- the cell that a walk ends at is covered
pub joined_ends : (cells : ℤ → ℤ → Type 0) (x y u v : ℤ) → Joined cells x y u v → cells u v
joined_ends cells x y u v (here c) = c
joined_ends cells x y u v (onward p q _ _ j next c) = c

-- one walk after another
pub joined_both : (cells : ℤ → ℤ → Type 0) (x y p q u v : ℤ) → Joined cells x y p q → Joined cells p q u v → Joined cells x y u v
joined_both cells x y p q u v j (here c) = j
joined_both cells x y p q u v j (onward a b _ _ k next c) = onward a b u v (joined_both cells x y p q a b j k) next c

-- cells that share a side are joined
pub joined_next : (cells : ℤ → ℤ → Type 0) (x y u v : ℤ) → cells x y → cells u v → ShareSide x y u v → Joined cells x y u v
joined_next cells x y u v c d next = onward x y u v (here c) next d

-- a walk back
pub joined_back : (cells : ℤ → ℤ → Type 0) (x y u v : ℤ) → Joined cells x y u v → Joined cells u v x y
joined_back cells x y u v (here c) = here c
joined_back cells x y u v (onward p q _ _ j next c) =
    joined_both cells u v p q x y (joined_next cells u v p q c (joined_ends cells x y p q j) (turned_side p q u v next)) (joined_back cells x y p q j)
