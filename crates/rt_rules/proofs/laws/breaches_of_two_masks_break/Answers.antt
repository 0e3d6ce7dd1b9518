use Rattle.rt_layout.specs.Covering.{MaskCovers}
use Rattle.rt_rules.proofs.Breaches.{size_breach_breaks, enclosure_breach_breaks, apart_breach_breaks}
use Rattle.rt_rules.proofs.laws.breaches_of_two_masks_break.Goals as goal

pub returns-clause-size : goal.returns-clause-size
returns-clause-size c = λ layout m size x y u v found b k. size_breach_breaks size (MaskCovers layout m) x y u v found b k

pub returns-clause-enclosure : goal.returns-clause-enclosure
returns-clause-enclosure c = λ layout m n number x y u v found b k. enclosure_breach_breaks number (MaskCovers layout m) (MaskCovers layout n) x y u v found b k

pub returns-clause-distance : goal.returns-clause-distance
returns-clause-distance c = λ layout m n number x y u v found b k. apart_breach_breaks number (MaskCovers layout m) (MaskCovers layout n) x y u v found b k
