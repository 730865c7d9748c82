use Rattle.std.proofs.Common.{◌≡◌, ◌-◌, true, false, eqb, length, get_or, ap, ◌∙◌, arith, rules}
use Rattle.std.proofs.lemmas.Bool.{eq-eqb, ne_eqb}
use Rattle.std.proofs.lemmas.List.{take_rest}
use Rattle.wire.specs.Grammar.{is_blank}
use Rattle.wire.specs.Values.{past, absent, go_on, members_of}
use Rattle.wire.proofs.MemberSteps.{one-read}
use Rattle.wire.proofs.priorities.values.read_members.Goals as goal
use Rattle.wire.proofs.priorities.values.read_members.Goals.{After-skip}

-- what the whole text says, by what follows the member that was read
follows : (c : After-skip) → go_on (members_of (c.loop-latest.invariant.0 - 1)) c.in_ok-latest.latest c.skip.new.self.rest.now ≡ members_of (length c.args.text.now) absent c.args.text.now
follows c =
    let one = one-read (c.loop-latest.invariant.0 - 1) c.loop-latest.invariant.0 c.loop-latest.latest c.in_ok-latest.latest c.loop-latest.reader.rest.now c.member.new.self.rest.now (omega (arith, c.in_ok-latest.ensures.shorter)) (search rules) in
    cc

pub returns-in-empty : goal.returns-in-empty
returns-in-empty c =
    let t : eqb (length c.skip.new.self.rest.now) 0 ≡ true = eq-eqb _ _ (omega arith) in
    rw t at (follows (goal.at.returns-in-empty c).After-skip)

pub returns-in_default : goal.returns-in_default
returns-in_default c =
    let t : eqb (length c.skip.new.self.rest.now) 0 ≡ false = ne_eqb _ _ (search rules) in
    let u : eqb (get_or c.skip.new.self.rest.now 0 0) 44 ≡ false = ne_eqb _ _ (search rules) in
    rw (t, u) at (follows (goal.at.returns-in_default c).After-skip)

pub loop-latest-preserved : goal.loop-latest-preserved
loop-latest-preserved c =
    let t : eqb (length c.skip.new.self.rest.now) 0 ≡ false = ne_eqb _ _ (λ e. omega arith) in
    let u : eqb (get_or c.skip.new.self.rest.now 0 0) 44 ≡ true = eq-eqb _ _ (search rules) in (
      c.loop-latest.invariant.0 - 1,
      omega (arith, c.in_ok-latest.ensures.shorter),
      ap (members_of (c.loop-latest.invariant.0 - 1) c.in_ok-latest.latest) (c.skip-in-loop-latest.ensures.rest ∙ ap (past is_blank) (take_rest c.skip.new.self.rest.now 1))
          ∙ (rw (t, u) at (follows (goal.at.loop-latest-preserved c).After-skip)),
    )
