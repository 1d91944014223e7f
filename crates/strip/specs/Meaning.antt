-- What a strip means, which bytes it takes, and its bytes after each call.
use Rattle.std.specs.Prelude.{◌≡◌, ℕ, zero, suc, ◌-◌, ◌/◌, ◌%◌, ◌≤◌, Bool, true, false, cond, ◌&&◌, List, [], ◌∷◌, ◌++◌, length, drop, Ok, Err, Result, ◌==◌, nat_le, refl}
use Rattle.std.proofs.Common.{ap, ◌∙◌, arith}
use Rattle.model.specs.declared.refusal.Refusal.{Refusal}
use Rattle.model.specs.declared.refusal.Refusal.TheVariants.{OutsideLimits}
use Rattle.model.specs.Numbers.{from_1_to}
use Rattle.model.specs.Maps.{Rising}
use Rattle.commit_table.specs.declared.NotPlaced.{NotPlaced}
use Rattle.strip.specs.declared.strip.Strip.{Strip}
use Rattle.strip.specs.Bodies.{arranged}
use Rattle.strip.specs.Arranged.{arranged_rises, length_arranged}
use Rattle.strip.specs.Layout.{IdEntry, strip_bytes, read_body}

-- the capacity that n bytes give: 1 to 2,000 entries of 24 bytes, after a header of 16, and nothing over
abbrev pub capacity_for : ℕ → Result ℕ Refusal
capacity_for n = cond (nat_le 16 n && ((n - 16) % 24 == 0 && from_1_to 2000 ((n - 16) / 24))) (Ok ((n - 16) / 24)) (Err OutsideLimits)

-- every byte
abbrev pub bytes_of : Strip → List ℕ
bytes_of s = s.bytes.now

-- the entries in order of placing, as the bytes have them
abbrev pub body_of : Strip → List IdEntry
body_of s = read_body s.count (drop 16 (bytes_of s))

pub length_read_body : (n : ℕ) (bs : List ℕ) → length (read_body n bs) ≡ n
length_read_body zero bs = refl
length_read_body (suc n) bs = ap suc (length_read_body n (drop 24 bs))

-- the map that a strip means, its capacity, and the laws of commit tables
abbrev pub strip_entries : Strip → List IdEntry
strip_entries s = arranged (body_of s)

abbrev pub strip_capacity : Strip → ℕ
strip_capacity s = s.capacity

pub strip_ordered : (s : Strip) → Rising (strip_entries s)
strip_ordered s = arranged_rises (body_of s)

pub length_entries : (s : Strip) → length (strip_entries s) ≡ s.count
length_entries s = length_arranged (body_of s) s.distinct ∙ length_read_body s.count (drop 16 (bytes_of s))

pub strip_within : (s : Strip) → length (strip_entries s) ≤ strip_capacity s
strip_within s = let a = length_entries s in let b = s.within in omega arith

-- bytes that were laid out for a strip: an empty strip, or as they were
abbrev pub made_bytes : List ℕ → Result ℕ Refusal → List ℕ
made_bytes bs (Ok m) = strip_bytes m []
made_bytes bs (Err e) = bs

-- the body after placing e, by the answer: a new entry stands last
abbrev pub place_body : Result Unit NotPlaced → IdEntry → List IdEntry → List IdEntry
place_body (Ok u) e es = es ++ e ∷ []
place_body (Err n) e es = es

-- every byte after a call on a strip with room for m, by whether it changed the strip: the strip of the new body, or the bytes bs that were there
abbrev pub bytes_if : Bool → ℕ → List IdEntry → List ℕ → List ℕ
bytes_if true m es bs = strip_bytes m es
bytes_if false m es bs = bs
