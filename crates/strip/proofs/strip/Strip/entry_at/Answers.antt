use Rattle.std.proofs.Common.{ap, ◌∙◌}
use Rattle.strip.specs.Meaning.{bytes_of}
use Rattle.strip.proofs.Reading.{entry_after}
use Rattle.strip.proofs.strip.Strip.entry_at.Goals as goal

pub returns : goal.returns
returns c = λ d.
    let s = c.args.self.now in
    c.entry_in.ensures ∙ ap (λ e. e.1) (entry_after s.count c.args.place c.offset_of.result (bytes_of s) d c.requires c.offset_of.ensures)
