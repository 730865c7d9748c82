use Rattle.std.proofs.Common.{◌≡◌, ◌-◌, ◌≤◌, true, false, get_or, take, length, length-take, arith, rules}
use Rattle.std.proofs.lemmas.Bool.Decides.{nat_tests}
use Rattle.std.proofs.lemmas.List.Sums.{prefix_len-drop_yes, prefix_len-drop_no, prefix_len-drop_all}
use Rattle.wire.specs.Grammar.{is_digit}
use Rattle.wire.proofs.Decimals.{decimal-more, digits_up_to, ten-more, ten-up-to}
use Rattle.wire.proofs.priorities.values.digits.Goals as goal

pub returns-then-not-is_digit-clause-count : goal.returns-then-not-is_digit-clause-count
returns-then-not-is_digit-clause-count c =
    let f : is_digit (get_or (take c.min.result c.args.text.now) c.loop-n.n 0) ≡ false = search rules in
    let stop = prefix_len-drop_no is_digit (take c.min.result c.args.text.now) c.loop-n.n 0 (omega arith) f in
    digits_up_to c.loop-n.n c.min.result c.args.text.now c.min.ensures (omega arith)

pub returns-then-not-is_digit-clause-bound : goal.returns-then-not-is_digit-clause-bound
returns-then-not-is_digit-clause-bound c = let few = length-take c.min.result c.args.text.now in let s = ten-up-to c.loop-n.n 16 (omega arith) in omega arith

pub overflow_mul-number : goal.overflow_mul-number
overflow_mul-number c = let few = length-take c.min.result c.args.text.now in let s = ten-up-to c.loop-n.n 15 (omega arith) in omega arith

pub overflow_add-number : goal.overflow_add-number
overflow_add-number c = let few = length-take c.min.result c.args.text.now in let s = ten-up-to c.loop-n.n 15 (omega arith) in omega arith

pub loop-n-preserved : goal.loop-n-preserved
loop-n-preserved c =
    let t : is_digit (get_or (take c.min.result c.args.text.now) c.loop-n.n 0) ≡ true = search rules in
    let high : get_or (take c.min.result c.args.text.now) c.loop-n.n 0 ≤ 57 = grind (arith, nat_tests) in
    let less : c.from.result ≡ get_or (take c.min.result c.args.text.now) c.loop-n.n 0 - 48 = search rules in
    let more = decimal-more (take c.min.result c.args.text.now) c.loop-n.n (omega arith) in
    let ten = ten-more c.loop-n.n in (
      omega arith,
      omega arith,
      omega (arith, prefix_len-drop_yes is_digit (take c.min.result c.args.text.now) c.loop-n.n 0 (omega arith) t),
    )

pub returns-clause-count : goal.returns-clause-count
returns-clause-count c =
    let stop = prefix_len-drop_all is_digit (take c.min.result c.args.text.now) c.loop-n.n (omega arith) in
    digits_up_to (length (take c.min.result c.args.text.now)) c.min.result c.args.text.now c.min.ensures (omega arith)

pub returns-clause-bound : goal.returns-clause-bound
returns-clause-bound c = let few = length-take c.min.result c.args.text.now in let s = ten-up-to c.loop-n.n 16 (omega arith) in omega arith
