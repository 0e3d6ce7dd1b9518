-- The sides of the least rectangle around two.
use Rattle.std.proofs.Common.{◌≡◌, ◌<◌, ◌^◌, ◌-◌, ℤ, pos, negsuc, ◌≤ℤ◌, ◌<ℤ◌, to_z, of_z, sym, subst, arith}
use Rattle.std.proofs.lemmas.Int.{ints, clamps, to_z-of_z}
use Rattle.std.specs.Int.{w64, int_max, int_min}
use Rattle.rt_base.specs.declared.plane.Rect.{Rect}
use Rattle.rt_base.specs.Plane.{IsSide}

-- a side is read from 64 bits as it was written to them
pub side_fits : (z : ℤ) → IsSide z → to_z w64 (of_z w64 z) ≡ z
side_fits (pos k) is = let small : k < 2 ^ 63 = omega (arith, ints, is.high) in to_z-of_z w64 (pos k) (record { sfits = small })
side_fits (negsuc k) is = let small : k < 2 ^ 63 = omega (arith, ints, is.low) in to_z-of_z w64 (negsuc k) (record { sfits = small })

high_left : (x1 x2 : ℤ) → x1 <ℤ x2 → x2 ≤ℤ pos (2 ^ 62 - 1) → x1 ≤ℤ pos (2 ^ 62 - 1)
high_left x1 x2 h g = omega (arith, ints, h, g)

low_right : (x1 x2 : ℤ) → x1 <ℤ x2 → negsuc (2 ^ 62 - 2) ≤ℤ x1 → negsuc (2 ^ 62 - 2) ≤ℤ x2
low_right x1 x2 h g = omega (arith, ints, h, g)

-- the four sides of a rectangle
pub left_side : (r : Rect) → IsSide r.x1
left_side r = record { low = r.from_left; high = high_left r.x1 r.x2 r.across r.to_right }

pub right_side : (r : Rect) → IsSide r.x2
right_side r = record { low = low_right r.x1 r.x2 r.across r.from_left; high = r.to_right }

pub bottom_side : (r : Rect) → IsSide r.y1
bottom_side r = record { low = r.from_bottom; high = high_left r.y1 r.y2 r.upwards r.to_top }

pub top_side : (r : Rect) → IsSide r.y2
top_side r = record { low = low_right r.y1 r.y2 r.upwards r.from_bottom; high = r.to_top }

lesser_low : (a b c low : ℤ) → low ≤ℤ a → low ≤ℤ b → c ≡ int_min a b → low ≤ℤ c
lesser_low a b c low h g e = omega (arith, ints, clamps, h, g, e)

lesser_high : (a b c high : ℤ) → a ≤ℤ high → c ≡ int_min a b → c ≤ℤ high
lesser_high a b c high h e = omega (arith, ints, clamps, h, e)

greater_low : (a b c low : ℤ) → low ≤ℤ a → c ≡ int_max a b → low ≤ℤ c
greater_low a b c low h e = omega (arith, ints, clamps, h, e)

greater_high : (a b c high : ℤ) → a ≤ℤ high → b ≤ℤ high → c ≡ int_max a b → c ≤ℤ high
greater_high a b c high h g e = omega (arith, ints, clamps, h, g, e)

-- the lesser and the greater of two sides
pub lesser_side : (a b c : ℤ) → IsSide a → IsSide b → c ≡ int_min a b → IsSide c
lesser_side a b c h g e = record { low = lesser_low a b c (negsuc (2 ^ 62 - 2)) h.low g.low e; high = lesser_high a b c (pos (2 ^ 62 - 1)) h.high e }

pub greater_side : (a b c : ℤ) → IsSide a → IsSide b → c ≡ int_max a b → IsSide c
greater_side a b c h g e = record { low = greater_low a b c (negsuc (2 ^ 62 - 2)) h.low e; high = greater_high a b c (pos (2 ^ 62 - 1)) h.high g.high e }

-- the lesser of two first sides lies before the greater of two last ones
spans : (a b c d s t : ℤ) → a <ℤ c → s ≡ int_min a b → t ≡ int_max c d → s <ℤ t
spans a b c d s t h e f = omega (arith, ints, clamps, h, e, f)

pub spans_kept : (a b c d x y s t : ℤ) → a <ℤ c → x ≡ int_min a b → y ≡ int_max c d → s ≡ x → t ≡ y → s <ℤ t
spans_kept a b c d x y s t h e f i j = subst (λ u. u <ℤ t) (sym i) (subst (λ u. x <ℤ u) (sym j) (spans a b c d x y h e f))

-- both bounds of a number that was kept
pub low_kept : (s x : ℤ) → s ≡ x → IsSide x → negsuc (2 ^ 62 - 2) ≤ℤ s
low_kept s x e is = subst (λ u. negsuc (2 ^ 62 - 2) ≤ℤ u) (sym e) is.low

pub high_kept : (s x : ℤ) → s ≡ x → IsSide x → s ≤ℤ pos (2 ^ 62 - 1)
high_kept s x e is = subst (λ u. u ≤ℤ pos (2 ^ 62 - 1)) (sym e) is.high
