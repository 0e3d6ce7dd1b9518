use Rattle.std.proofs.Common.{suc, map}
use Rattle.rt_tech.specs.Tech.{mask_count}
use Rattle.rt_strips.specs.Channels.{IsStripCell}
use Rattle.rt_strips.specs.Placed.{placed}
use Rattle.rt_strips.proofs.Family.{are_strips}
use Rattle.layout_cases.proofs.strips.strips.Goals as goal

pub returns-clause-strips : goal.returns-clause-strips
returns-clause-strips g c =
    let layout = c.in_ok-layout.layout in
    let tech = c.in_ok-tech.tech in
    are_strips (IsStripCell layout tech) (suc (mask_count tech)) (map placed c.in_ok-strips.strips.list) c.in_ok-strips.ensures.strips.strips_are
