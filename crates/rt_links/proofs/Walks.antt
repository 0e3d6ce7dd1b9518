-- Walks over links, and the carrying of links between two graphs: spots with their neighbours, and nodes with the pairs that join them.
use Rattle.std.proofs.Common.{◌⊎◌, inl, inr}
use Rattle.rt_links.specs.Links.{AreLinked}
use Rattle.rt_links.specs.Links.AreLinked.{here, onward}

-- one walk after another
pub linked_both : {V : Type 0} (Join : V → V → Type 0) (u v t : V) → AreLinked Join u v → AreLinked Join v t → AreLinked Join u t
linked_both {V} Join u v t a here = a
linked_both {V} Join u v t a (onward p _ b next) = onward p t (linked_both Join u v p a b) next

turned : {A B : Type 0} → A ⊎ B → B ⊎ A
turned {A} {B} (inl a) = inr a
turned {A} {B} (inr b) = inl b

-- a walk back
pub linked_back : {V : Type 0} (Join : V → V → Type 0) (u v : V) → AreLinked Join u v → AreLinked Join v u
linked_back {V} Join u v here = here
linked_back {V} Join u v (onward p _ b next) = linked_both Join v p u (onward v p here (turned next)) (linked_back Join u p b)

-- a walk over pairs that are joined in another way too
pub linked_alike : {V : Type 0} (Join Join' : V → V → Type 0) → ((u v : V) → Join u v → Join' u v) → (u v : V) → AreLinked Join u v → AreLinked Join' u v
linked_alike {V} Join Join' to u v here = here
linked_alike {V} Join Join' to u v (onward p _ b (inl next)) = onward p v (linked_alike Join Join' to u p b) (inl (to p v next))
linked_alike {V} Join Join' to u v (onward p _ b (inr next)) = onward p v (linked_alike Join Join' to u p b) (inr (to v p next))

-- spots are of nodes such that neighbours are of linked nodes, and each node has a spot to which all its spots are linked
pub record AreNodesOf {K V : Type 0} (Next : K → K → Type 0) (Join : V → V → Type 0) (Of : K → V → Type 0) (spot_of : V → K) : Type 0 where
  pub node : (p q : K) → Next p q → ((u : V) × Of p u) × ((v : V) × Of q v)
  pub one : (p : K) (u v : V) → Of p u → Of p v → AreLinked Join u v
  pub near : (p q : K) (u v : V) → Next p q → Of p u → Of q v → AreLinked Join u v
  pub reach : (p : K) (u : V) → Of p u → AreLinked Next p (spot_of u)
  pub joined : (u v : V) → Join u v → AreLinked Next (spot_of u) (spot_of v)

module _ {K V : Type 0} (Next : K → K → Type 0) (Join : V → V → Type 0) (Of : K → V → Type 0) (spot_of : V → K) (nodes : AreNodesOf Next Join Of spot_of) where
  -- the nodes of linked spots are linked
  pub spots_to_nodes : (p : K) (u : V) → Of p u → (q : K) → AreLinked Next p q → (v : V) → Of q v → AreLinked Join u v
  spots_to_nodes p u h q here v k = nodes.one p u v h k
  spots_to_nodes p u h q (onward t _ walk (inl next)) v k =
      let n = (nodes.node t q next).0 in
      linked_both Join u n.0 v (spots_to_nodes p u h t walk n.0 n.1) (nodes.near t q n.0 v next n.1 k)
  spots_to_nodes p u h q (onward t _ walk (inr next)) v k =
      let n = (nodes.node q t next).1 in
      linked_both Join u n.0 v (spots_to_nodes p u h t walk n.0 n.1) (linked_back Join v n.0 (nodes.near q t v n.0 next k n.1))

  nodes_to_spots_of : (u v : V) → AreLinked Join u v → AreLinked Next (spot_of u) (spot_of v)
  nodes_to_spots_of u v here = here
  nodes_to_spots_of u v (onward t _ walk (inl join)) = linked_both Next (spot_of u) (spot_of t) (spot_of v) (nodes_to_spots_of u t walk) (nodes.joined t v join)
  nodes_to_spots_of u v (onward t _ walk (inr join)) =
      linked_both Next (spot_of u) (spot_of t) (spot_of v) (nodes_to_spots_of u t walk) (linked_back Next (spot_of v) (spot_of t) (nodes.joined v t join))

  -- the spots of linked nodes are linked
  pub nodes_to_spots : (p q : K) (u v : V) → Of p u → Of q v → AreLinked Join u v → AreLinked Next p q
  nodes_to_spots p q u v h k walk =
      linked_both Next p (spot_of u) q (nodes.reach p u h)
      (linked_both Next (spot_of u) (spot_of v) q (nodes_to_spots_of u v walk) (linked_back Next q (spot_of v) (nodes.reach q v k)))
