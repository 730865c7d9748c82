use Rattle.wire.specs.Grammar.{is_space}
use Rattle.wire.proofs.priorities.values.read_latest.Given as goal

abbrev pub ghost-skip : goal.ghost-skip
ghost-skip a = is_space
