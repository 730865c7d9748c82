use Rattle.wire.proofs.priorities.values.Reader.skip.Given as goal

abbrev pub ghost-run : goal.ghost-run
ghost-run g a = g.passes
