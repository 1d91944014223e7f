use Rattle.strip.proofs.Layouts.{telling}
use Rattle.strip.proofs.laws.bytes_tell_entries.Goals as goal

pub returns : goal.returns
returns c = telling
