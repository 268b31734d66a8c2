use Rattle.std.proofs.Common.{◌≡◌, length, ap, ◌∙◌, arith}
use Rattle.service_registry.proofs.ByLength.{long_3, long_5, long_6, long_7, long_8, long_9, long_10, long_11, long_12}
use Rattle.service_registry.proofs.offered.service_of_name.Goals as goal

pub returns-in-3 : goal.returns-in-3
returns-in-3 c =
    let long : length c.args.name.now ≡ 3 = omega (arith, c.in-3.is, ap length c.as_slice.ensures.value) in
    c.first_named.ensures ∙ long_3 c.args.name.now long

pub returns-in-5 : goal.returns-in-5
returns-in-5 c =
    let long : length c.args.name.now ≡ 5 = omega (arith, c.in-5.is, ap length c.as_slice.ensures.value) in
    c.first_named-in-5.ensures ∙ long_5 c.args.name.now long

pub returns-in-6 : goal.returns-in-6
returns-in-6 c =
    let long : length c.args.name.now ≡ 6 = omega (arith, c.in-6.is, ap length c.as_slice.ensures.value) in
    c.one_named.ensures ∙ long_6 c.args.name.now long

pub returns-in-7 : goal.returns-in-7
returns-in-7 c =
    let long : length c.args.name.now ≡ 7 = omega (arith, c.in-7.is, ap length c.as_slice.ensures.value) in
    c.service_of_seven.ensures ∙ long_7 c.args.name.now long

pub returns-in-8 : goal.returns-in-8
returns-in-8 c =
    let long : length c.args.name.now ≡ 8 = omega (arith, c.in-8.is, ap length c.as_slice.ensures.value) in
    c.one_named-in-8.ensures ∙ long_8 c.args.name.now long

pub returns-in-9 : goal.returns-in-9
returns-in-9 c =
    let long : length c.args.name.now ≡ 9 = omega (arith, c.in-9.is, ap length c.as_slice.ensures.value) in
    c.one_named-in-9.ensures ∙ long_9 c.args.name.now long

pub returns-in-10 : goal.returns-in-10
returns-in-10 c =
    let long : length c.args.name.now ≡ 10 = omega (arith, c.in-10.is, ap length c.as_slice.ensures.value) in
    c.one_named-in-10.ensures ∙ long_10 c.args.name.now long

pub returns-in-11 : goal.returns-in-11
returns-in-11 c =
    let long : length c.args.name.now ≡ 11 = omega (arith, c.in-11.is, ap length c.as_slice.ensures.value) in
    c.one_named-in-11.ensures ∙ long_11 c.args.name.now long

pub returns-in-12 : goal.returns-in-12
returns-in-12 c =
    let long : length c.args.name.now ≡ 12 = omega (arith, c.in-12.is, ap length c.as_slice.ensures.value) in
    c.one_named-in-12.ensures ∙ long_12 c.args.name.now long
