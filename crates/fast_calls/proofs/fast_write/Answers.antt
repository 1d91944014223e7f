use Rattle.std.proofs.Common.{◌∙◌}
use Rattle.fast_calls.proofs.Exits.{fast_write_is}
use Rattle.fast_calls.proofs.fast_write.Goals as goal

pub returns : goal.returns
returns g c = c.fast_change.ensures ∙ fast_write_is _ c.args.key c.args.value
