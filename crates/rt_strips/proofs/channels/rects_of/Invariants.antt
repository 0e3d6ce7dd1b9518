use Rattle.rt_strips.specs.Roles.{AreOfRole}
use Rattle.rt_strips.proofs.channels.rects_of.Given as goal

abbrev pub invariant-loop-m : goal.invariant-loop-m
invariant-loop-m l = AreOfRole l.layout l.tech l.m l.role l.rects.items
