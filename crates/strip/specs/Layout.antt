-- The bytes of a strip: a header, the entries in order of placing, and zeros. Numbers stand least significant byte first.
use Rattle.std.specs.Prelude.{◌≡◌, ℕ, zero, suc, ◌+◌, ◌-◌, ◌*◌, ◌/◌, ◌%◌, ◌^◌, ◌<◌, ◌≤◌, cond, List, [], ◌∷◌, ◌++◌, length, take, drop, replicate, ◌==◌, slice_index}
use Rattle.model.specs.declared.words.CommitEntry.{CommitEntry}
use Rattle.model.specs.declared.words.CommitEntry.TheVariants.{Committed, Aborted}

-- an id with its entry
abbrev pub IdEntry : Type 0
IdEntry = ℕ × CommitEntry

-- a number in 2, 4 and 8 bytes
abbrev pub in_2 : ℕ → List ℕ
in_2 n = n % 256 ∷ (n / 256 % 256 ∷ [])

abbrev pub in_4 : ℕ → List ℕ
in_4 n = n % 256 ∷ (n / 256 % 256 ∷ (n / 65536 % 256 ∷ (n / 16777216 % 256 ∷ [])))

abbrev pub in_8 : ℕ → List ℕ
in_8 n = n % 256 ∷ (n / 256 % 256 ∷ (n / 65536 % 256 ∷ (n / 16777216 % 256 ∷ (n / 4294967296 % 256 ∷ (n / 1099511627776 % 256 ∷ (n / 281474976710656 % 256 ∷ (n / 72057594037927936 % 256 ∷ [])))))))

-- 1 for a committed transaction, 2 for an aborted one
abbrev pub kind_of : CommitEntry → ℕ
kind_of (Committed n) = 1
kind_of Aborted = 2

abbrev pub number_of : CommitEntry → ℕ
number_of (Committed n) = n
number_of Aborted = 0

-- 24 bytes: the id, the kind, seven zeros, the number
abbrev pub packed : ℕ → ℕ → ℕ → List ℕ
packed id k n = in_8 id ++ ((k ∷ (0 ∷ (0 ∷ (0 ∷ (0 ∷ (0 ∷ (0 ∷ (0 ∷ [])))))))) ++ in_8 n)

abbrev pub entry_bytes : IdEntry → List ℕ
entry_bytes e = packed e.0 (kind_of e.1) (number_of e.1)

-- a body is empty, or one entry followed by a body
abbrev pub body : List IdEntry → List ℕ
body [] = []
body (e ∷ es) = entry_bytes e ++ body es

-- the header of n entries with room for m: n, m, the offset of the first entry, the offset of the first free byte, four zeros
abbrev pub header : ℕ → ℕ → List ℕ
header m n = in_2 n ++ (in_2 m ++ (in_4 16 ++ (in_4 (16 + 24 * n) ++ (0 ∷ (0 ∷ (0 ∷ (0 ∷ [])))))))

-- the whole strip
abbrev pub strip_bytes : ℕ → List IdEntry → List ℕ
strip_bytes m es = header m (length es) ++ (body es ++ replicate (24 * (m - length es)) 0)

-- the number in the first two bytes, and in the first eight
abbrev pub read_2 : List ℕ → ℕ
read_2 bs = slice_index bs 0 + slice_index bs 1 * 256

abbrev pub read_8 : List ℕ → ℕ
read_8 bs = slice_index bs 0 + slice_index bs 1 * 256 + slice_index bs 2 * 65536 + slice_index bs 3 * 16777216 + slice_index bs 4 * 4294967296 + slice_index bs 5 * 1099511627776 + slice_index bs 6 * 281474976710656 + slice_index bs 7 * 72057594037927936

abbrev pub entry_of : ℕ → ℕ → CommitEntry
entry_of k n = cond (k == 1) (Committed n) Aborted

-- the entry in the first 24 bytes
abbrev pub read_entry : List ℕ → IdEntry
read_entry bs = (read_8 bs, entry_of (slice_index bs 8) (read_8 (drop 16 bs)))

-- the n entries with which the bytes begin
abbrev pub read_body : ℕ → List ℕ → List IdEntry
read_body zero bs = []
read_body (suc n) bs = read_entry bs ∷ read_body n (drop 24 bs)

-- the bytes with a part written over them from an offset on
abbrev pub write_over : ℕ → List ℕ → List ℕ → List ℕ
write_over at part bs = take at bs ++ (part ++ drop (at + length part) bs)

-- entries whose ids and numbers are 64-bit
abbrev pub SixtyFour : List IdEntry → Type 0
SixtyFour [] = Unit {0}
SixtyFour (e ∷ es) = (e.0 < 2 ^ 64) × (number_of e.1 < 2 ^ 64) × SixtyFour es

-- the bytes of a strip tell its entries
abbrev pub Telling : Type 0
Telling = (m n : ℕ) (es fs : List IdEntry) → SixtyFour es → SixtyFour fs → length es ≤ 2000 → length fs ≤ 2000 → strip_bytes m es ≡ strip_bytes n fs → es ≡ fs
