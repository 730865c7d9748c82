use Rattle.wire.specs.Grammar.{goes_on_key}
use Rattle.wire.proofs.priorities.values.Reader.key.Given as goal

abbrev pub ghost-run : goal.ghost-run
ghost-run a = goes_on_key
