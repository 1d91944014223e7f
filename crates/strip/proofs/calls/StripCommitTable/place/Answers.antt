use Rattle.std.proofs.Common.{◌≡◌, ◌<◌, length, Ok, refl, ap, ◌∙◌, arith}
use Rattle.commit_table.specs.Placing.{placing}
use Rattle.strip.specs.Bodies.{arranged}
use Rattle.strip.specs.Meaning.{body_of, length_entries}
use Rattle.strip.proofs.Strips.{length_bytes, settled_grown}
use Rattle.strip.proofs.Meanings.{place_full, place_new}
use Rattle.strip.proofs.calls.StripCommitTable.place.Goals as goal

pub returns-then-self-clause-placed : goal.returns-then-self-clause-placed
returns-then-self-clause-placed c =
    let s = c.args.self.now in
    let l = length_entries s in
    place_full s.capacity c.args.id c.args.entry (body_of s) c.in_default.ensures (omega arith)

pub write_at-requires : goal.write_at-requires
write_at-requires c =
    let s = c.args.self.now in
    let b = length_bytes s in
    let e : length c.bytes_of_entry.result ≡ 24 = ap length c.bytes_of_entry.ensures.bytes in
    omega (arith, s.within)

pub invariant_of-self : goal.invariant_of-self
invariant_of-self c =
    let s = c.args.self.now in
    let b = c.bytes_of_entry in
    let lt : s.count < s.capacity = omega (arith, s.within) in
    let w = settled_grown s (c.args.id, c.args.entry) c.offset_of.result b.result c.write_at.new.bytes c.header_bytes.result c.write_at-2.new.bytes lt c.in_default.ensures c.offset_of.ensures b.ensures.bytes b.ensures.sound c.write_at.ensures.written c.header_bytes.ensures c.write_at-2.ensures.written in
    record { some = s.some; limit = s.limit; within = omega arith; whole = w.whole; distinct = w.distinct }

pub returns : goal.returns
returns c =
    let s = c.args.self.now in
    let b = c.bytes_of_entry in
    let lt : s.count < s.capacity = omega (arith, s.within) in
    let l = length_entries s in
    let w = settled_grown s (c.args.id, c.args.entry) c.offset_of.result b.result c.write_at.new.bytes c.header_bytes.result c.write_at-2.new.bytes lt c.in_default.ensures c.offset_of.ensures b.ensures.bytes b.ensures.sound c.write_at.ensures.written c.header_bytes.ensures c.write_at-2.ensures.written in
    record {
      placed = ap (λ es. placing (Ok tt) (arranged es)) w.body_is ∙ place_new s.capacity c.args.id c.args.entry (body_of s) c.in_default.ensures (omega arith);
      kept = refl;
      body = w.body_is;
      bytes = w.bytes;
    }
