-- How much a walk has left to do.
use Rattle.std.proofs.Common.{◌≡◌, ℕ, zero, suc, ◌+◌, ◌<◌, ◌≤◌, List, [], ◌∷◌, ◌++◌, length, Some, slice_get, refl, arith}
use Rattle.std.proofs.Math.ListN.{set, length-drop}
use Rattle.gds_stream.specs.declared.library.Structure.{Structure}
use Rattle.gds_flat.specs.declared.walk.Frame.{Frame}
use Rattle.gds_flat.specs.declared.walk.Mark.{Mark}
use Rattle.gds_flat.specs.declared.walk.Mark.TheVariants.{Unseen, Open, Done}
use Rattle.gds_flat.specs.Reach.{elements_of}
use Rattle.gds_flat.specs.Walking.{elements_at, elements_left, work_unseen, work_open, work_left}

-- one more frame
pub work_open_more : (library : List Structure) (frames : List Frame) (f : Frame)
    → work_open library (frames ++ f ∷ []) ≡ work_open library frames + (1 + length (elements_left library f))
work_open_more library [] f = omega arith
work_open_more library (g ∷ frames) f = omega (arith, work_open_more library frames f)

-- a structure is reached
work_reached : (marks : List Mark) (library : List Structure) (k d : ℕ) → slice_get marks k ≡ Some Unseen → length marks ≡ length library
    → work_unseen (set marks k (Open d)) library + (1 + length (elements_of (slice_get library k))) ≡ work_unseen marks library
work_reached [] library k d was same = cc
work_reached (m ∷ marks) [] k d was same = absurd (omega arith)
work_reached (Unseen ∷ marks) (s ∷ library) zero d was same = omega arith
work_reached (Open e ∷ marks) (s ∷ library) zero d was same = cc
work_reached (Done e ∷ marks) (s ∷ library) zero d was same = cc
work_reached (Unseen ∷ marks) (s ∷ library) (suc k) d was same = omega (arith, work_reached marks library k d was (omega arith))
work_reached (Open e ∷ marks) (s ∷ library) (suc k) d was same = work_reached marks library k d was (omega arith)
work_reached (Done e ∷ marks) (s ∷ library) (suc k) d was same = work_reached marks library k d was (omega arith)

-- a structure is done
work_done : (marks : List Mark) (library : List Structure) (k d e : ℕ) → slice_get marks k ≡ Some (Open e)
    → work_unseen (set marks k (Done d)) library ≡ work_unseen marks library
work_done [] library k d e was = refl
work_done (m ∷ marks) [] k d e was = drained k
  where
    drained : (k : ℕ) → work_unseen (set (m ∷ marks) k (Done d)) [] ≡ 0
    drained zero = refl
    drained (suc k) = refl
work_done (Unseen ∷ marks) (s ∷ library) zero d e was = cc
work_done (Open f ∷ marks) (s ∷ library) zero d e was = refl
work_done (Done f ∷ marks) (s ∷ library) zero d e was = cc
work_done (Unseen ∷ marks) (s ∷ library) (suc k) d e was = omega (arith, work_done marks library k d e was)
work_done (Open f ∷ marks) (s ∷ library) (suc k) d e was = work_done marks library k d e was
work_done (Done f ∷ marks) (s ∷ library) (suc k) d e was = work_done marks library k d e was

pub less_open : (library : List Structure) (frames : List Frame) (marks : List Mark) (k d : ℕ) → slice_get marks k ≡ Some Unseen → length marks ≡ length library
    → work_left library (frames ++ record { structure = k; next = 0 } ∷ []) (set marks k (Open d)) ≤ work_left library frames marks
less_open library frames marks k d was same =
    let f : Frame = record { structure = k; next = 0 } in
    omega (arith, work_open_more library frames f, work_reached marks library k d was same)

pub less_close : (library : List Structure) (frames : List Frame) (f : Frame) (marks : List Mark) (d e : ℕ) → slice_get marks f.structure ≡ Some (Open e)
    → work_left library frames (set marks f.structure (Done d)) < work_left library (frames ++ f ∷ []) marks
less_close library frames f marks d e was =
    omega (arith, work_open_more library frames f, work_done marks library f.structure d e was)

pub less_on : (library : List Structure) (frames : List Frame) (f : Frame) (marks : List Mark) → f.next < length (elements_at library f.structure)
    → work_left library (frames ++ record { structure = f.structure; next = f.next + 1 } ∷ []) marks < work_left library (frames ++ f ∷ []) marks
less_on library frames f marks below =
    let g : Frame = record { structure = f.structure; next = f.next + 1 } in
    omega (
      arith,
      work_open_more library frames f,
      work_open_more library frames g,
      length-drop f.next (elements_at library f.structure),
      length-drop (f.next + 1) (elements_at library f.structure),
    )
