use Rattle.std.proofs.Common.{◌≡◌, length, arith, rules, string_bytes, refl}
use Rattle.std.specs.Prelude.{codes}
use Rattle.rt_run.proofs.Seven.{seven_words}
use Rattle.rt_run.proofs.words.spelled_names.Goals as goal

pub returns : goal.returns
returns c =
    let seven : length c.args.words.now ≡ 7 = omega arith in
    let all = seven_words c.args.words.now c.command-item.result c.source-item.result c.stable-item.result c.ttable-item.result c.sizes-item.result c.out-item.result c.cert-item.result seven c.command-item.is c.source-item.is c.stable-item.is c.ttable-item.is c.sizes-item.is c.out-item.is c.cert-item.is in
    let command : string_bytes c.command-item.result ≡ codes "retarget" = search rules in
    rw (all, command, c.as_str-2.ensures.value, c.as_str-3.ensures.value, c.as_str-4.ensures.value, c.as_str-5.ensures.value, c.as_str-6.ensures.value, c.as_str-7.ensures.value) refl
