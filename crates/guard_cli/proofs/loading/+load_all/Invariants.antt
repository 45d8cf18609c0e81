use Rattle.std.proofs.Common.{length}
use Rattle.guard_cli.proofs.loading.+load_all.Given as goal

abbrev pub decreases-load_all : goal.decreases-load_all
decreases-load_all g l = length l.names.now
