-- How many proofs a list of nodes is, and the contexts of a walk, kept on one path.
use Rattle.std.specs.Prelude.{ℕ, zero, suc, ◌≤◌, List, [], ◌∷◌, ◌++◌, take, map}
use Rattle.rt_rows.specs.declared.proof.Node.{Node}
use Rattle.rt_rows.specs.declared.proof.Node.TheVariants.{Branch, Cut, Bound, Empty}
use Rattle.rt_proofs.specs.Forms.{Sum}

-- how many parts are to come behind the node, where so many were to come behind its own
abbrev pub after : Node → ℕ → ℕ
after (Branch v n) k = suc (suc k)
after (Cut over shares) k = suc k
after (Bound over shares) k = k
after (Empty over shares) k = k

-- the nodes are so many trees, one after another
abbrev pub AreTrees : List Node → ℕ → Type 0
AreTrees [] zero = Unit {0}
AreTrees [] (suc k) = ⊥
AreTrees (node ∷ nodes) zero = ⊥
AreTrees (node ∷ nodes) (suc k) = AreTrees nodes (after node k)

-- a context that waits: the first rows of the path, and one more
pub record Waiting : Type 0 where
  pub depth : ℕ
  pub row : Sum

abbrev pub context_of : List Sum → Waiting → List Sum
context_of path waiting = take waiting.depth path ++ waiting.row ∷ []

-- the stack of contexts: the path, and those that wait
abbrev pub contexts : List Sum → List Waiting → List (List Sum)
contexts path waiting = path ∷ map (context_of path) waiting

-- the depths are at most the bound, and don't rise from the front
pub data Falling : ℕ → List Waiting → Type 0 where
  none_waits : (bound : ℕ) → Falling bound []
  one_waits : (bound : ℕ) (first : Waiting) (waiting : List Waiting) → first.depth ≤ bound → Falling first.depth waiting
      → Falling bound (first ∷ waiting)
