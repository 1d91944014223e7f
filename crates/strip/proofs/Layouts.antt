-- Entries in bytes: what is read is what was written, and where a write lands.
use Rattle.std.proofs.Common.{◌≡◌, ℕ, ◌+◌, ◌-◌, ◌*◌, ◌^◌, ◌<◌, ◌≤◌, List, [], ◌∷◌, ◌++◌, length, get_or, drop, replicate, All, sym, refl, ap, ◌∙◌, append_assoc, arith}
use Rattle.std.proofs.lemmas.List.{length-append, take_at, drop_at}
use Rattle.std.proofs.lemmas.List.Elements.{All-nil, All-cons, All-head, All-tail}
use Rattle.model.specs.declared.words.CommitEntry.{CommitEntry}
use Rattle.model.specs.declared.words.CommitEntry.TheVariants.{Committed, Aborted}
use Rattle.strip.specs.Layout.{IdEntry, in_8, read_8, read_2, kind_of, number_of, entry_of, entry_bytes, body, strip_bytes, read_entry, read_body, write_over, SixtyFour, Telling}

pub read_in_8 : (n : ℕ) → n < 2 ^ 64 → read_8 (in_8 n) ≡ n
read_in_8 n h = omega arith

-- an entry that is read as it was written
abbrev pub Sound : IdEntry → Type 0
Sound r = read_entry (entry_bytes r) ≡ r

abbrev pub with_id : ℕ → CommitEntry → IdEntry
with_id id e = (id, e)

pub entry_eq : (id i : ℕ) (e f : CommitEntry) → id ≡ i → e ≡ f → with_id id e ≡ with_id i f
entry_eq id i e f p q = ap (λ a. with_id a e) p ∙ ap (λ b. with_id i b) q

entry_read : (e : CommitEntry) → number_of e < 2 ^ 64 → entry_of (kind_of e) (read_8 (in_8 (number_of e))) ≡ e
entry_read (Committed n) h = ap (λ m. Committed m) (read_in_8 n h)
entry_read Aborted h = refl

sound_entry : (r : IdEntry) → r.0 < 2 ^ 64 → number_of r.1 < 2 ^ 64 → Sound r
sound_entry r h k = entry_eq (read_8 (in_8 r.0)) r.0 (entry_of (kind_of r.1) (read_8 (in_8 (number_of r.1)))) r.1 (read_in_8 r.0 h) (entry_read r.1 k)

pub sounds_fit : (rs : List IdEntry) → SixtyFour rs → All Sound rs
sounds_fit [] f = All-nil Sound
sounds_fit (r ∷ rs) f = All-cons Sound r rs (sound_entry r f.0 f.1) (sounds_fit rs f.2)

pub read_body_of : (rs : List IdEntry) (z : List ℕ) → All Sound rs → read_body (length rs) (body rs ++ z) ≡ rs
read_body_of [] z s = refl
read_body_of (r ∷ rs) z s = ap (λ x. x ∷ read_body (length rs) (body rs ++ z)) (All-head Sound r rs s) ∙ ap (λ l. r ∷ l) (read_body_of rs z (All-tail Sound r rs s))

pub sounds_body : (rs : List IdEntry) (z : List ℕ) → read_body (length rs) (body rs ++ z) ≡ rs → All Sound rs
sounds_body [] z e = All-nil Sound
sounds_body (r ∷ rs) z e = All-cons Sound r rs (ap (λ l. get_or l 0 r) e) (sounds_body rs z (ap (λ l. drop 1 l) e))

pub length_body : (rs : List IdEntry) → length (body rs) ≡ 24 * length rs
length_body [] = refl
length_body (r ∷ rs) = let l = length_body rs in omega arith

pub body_append : (xs ys : List IdEntry) → body (xs ++ ys) ≡ body xs ++ body ys
body_append [] ys = refl
body_append (x ∷ xs) ys = ap (λ l. entry_bytes x ++ l) (body_append xs ys)

-- a write over the middle part
pub over_mid : (a b c part : List ℕ) (at : ℕ) → length a ≡ at → length b ≡ length part → write_over at part (a ++ (b ++ c)) ≡ a ++ (part ++ c)
over_mid a b c part at la lb =
    let front = take_at a (b ++ c) at la in
    let ab = length-append a b in
    let back : drop (at + length part) (a ++ (b ++ c)) ≡ c = ap (drop (at + length part)) (sym (append_assoc a b c)) ∙ drop_at (a ++ b) c (at + length part) (omega arith) in
    ap (λ x. x ++ (part ++ drop (at + length part) (a ++ (b ++ c)))) front ∙ ap (λ y. a ++ (part ++ y)) back

-- the entries, from the bytes alone
body_read : (m : ℕ) (rs : List IdEntry) → SixtyFour rs → length rs ≤ 2000 → read_body (read_2 (strip_bytes m rs)) (drop 16 (strip_bytes m rs)) ≡ rs
body_read m rs f le =
    let n : read_2 (strip_bytes m rs) ≡ length rs = omega arith in
    ap (λ k. read_body k (drop 16 (strip_bytes m rs))) n ∙ read_body_of rs (replicate (24 * (m - length rs)) 0) (sounds_fit rs f)

pub telling : Telling
telling m n rs qs f g l k e = sym (body_read m rs f l) ∙ ap (λ b. read_body (read_2 b) (drop 16 b)) e ∙ body_read n qs g k
