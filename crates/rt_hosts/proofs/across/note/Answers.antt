use Rattle.std.proofs.Common.{◌≤◌, ◌-◌, length, arith, inl, refl}
use Rattle.std.proofs.lemmas.Int.{ints}
use Rattle.rt_hosts.proofs.across.note.Goals as goal

pub returns : goal.returns
returns c =
    let strip = c.in-Some.strip in
    let count = length c.args.hosts.now in
    let tagged : count ≤ strip.tag = c.requires.tagged strip c.in-Some.is in
    inl (record {
      strip = strip;
      is = c.in-Some.is;
      there = omega arith;
      over = record { first = omega (arith, ints); second = omega (arith, ints) };
      number = strip.tag - count;
      numbered = omega (arith, tagged);
      after_is = refl;
    })
