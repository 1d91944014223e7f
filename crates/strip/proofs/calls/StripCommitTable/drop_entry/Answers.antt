use Rattle.std.proofs.Common.{drop, Some, None, sym, refl, ap, ◌∙◌, arith}
use Rattle.model.specs.declared.words.CommitEntry.TheVariants.{Aborted}
use Rattle.strip.specs.Bodies.{arranged, without}
use Rattle.strip.specs.Layout.{strip_bytes}
use Rattle.strip.specs.Meaning.{bytes_of, body_of, length_read_body}
use Rattle.strip.proofs.Filled.{id_at_place}
use Rattle.strip.proofs.Strips.{settled_shrunk}
use Rattle.strip.proofs.Meanings.{there_arranged, arranged_filled, arranged_absent}
use Rattle.strip.proofs.calls.StripCommitTable.drop_entry.Goals as goal

pub returns-in_default : goal.returns-in_default
returns-in_default c =
    let es = body_of c.args.self.now in
    let e = c.in_default.ensures.place in
    record { answer = sym (there_arranged es c.args.id (0, Aborted) None e); dropped = arranged_absent es c.args.id (0, Aborted) e; kept = refl; body = sym (ap (λ o. without o es) e); bytes = refl }

pub invariant_of-self : goal.invariant_of-self
invariant_of-self c =
    let s = c.args.self.now in
    let w = settled_shrunk s c.in-Some.place c.offset_of-last.result c.offset_of.result c.copy_within.new.self c.write_at.new.bytes c.header_bytes.result c.write_at-2.new.bytes c.in-Some.ensures.within c.offset_of-last.ensures c.offset_of.ensures c.copy_within.ensures.after c.write_at.ensures.written c.header_bytes.ensures c.write_at-2.ensures.written in
    record { some = s.some; limit = s.limit; within = omega (arith, s.within); whole = w.whole; distinct = w.distinct }

pub returns : goal.returns
returns c =
    let s = c.args.self.now in
    let es = body_of s in
    let e = c.in-Some.ensures.place in
    let l = length_read_body s.count (drop 16 (bytes_of s)) in
    let p = id_at_place es c.args.id c.in-Some.place (0, Aborted) e in
    let w = settled_shrunk s c.in-Some.place c.offset_of-last.result c.offset_of.result c.copy_within.new.self c.write_at.new.bytes c.header_bytes.result c.write_at-2.new.bytes c.in-Some.ensures.within c.offset_of-last.ensures c.offset_of.ensures c.copy_within.ensures.after c.write_at.ensures.written c.header_bytes.ensures c.write_at-2.ensures.written in
    let left = sym (ap (λ o. without o es) e) in
    record {
      answer = sym (there_arranged es c.args.id (0, Aborted) (Some c.in-Some.place) e);
      dropped = ap arranged w.body_is ∙ arranged_filled es c.in-Some.place c.args.id (0, Aborted) s.distinct (omega (arith, c.in-Some.ensures.within)) p;
      kept = refl;
      body = w.body_is ∙ left;
      bytes = w.bytes ∙ ap (strip_bytes s.capacity) left;
    }
