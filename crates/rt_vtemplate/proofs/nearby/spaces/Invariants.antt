use Rattle.std.proofs.Common.{◌≡◌, map, take}
use Rattle.rt_tech.specs.declared.table.Mask.{Mask}
use Rattle.rt_vtemplate.proofs.nearby.spaces.Given as goal

abbrev pub invariant-loop-mask : goal.invariant-loop-mask
invariant-loop-mask l = l.spaces.items ≡ map (λ (mask : Mask). mask.space) (take l.mask-index l.fn.tech.masks)
