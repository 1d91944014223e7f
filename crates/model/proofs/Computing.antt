-- Runs by computation: a test that the answers to some calls are the expected ones, which the check evaluates at once, and what it shows. (An equation between
-- long lists of answers, checked by `refl`, would be compared term by term, which grows too large after a dozen calls.)
use Rattle.std.proofs.Common.{◌≡◌, ℕ, Bool, true, false, cond, ◌&&◌, eqb, List, [], ◌∷◌, Some, None, sym, refl, ap, ◌∙◌, arith}
use Rattle.std.proofs.lemmas.Bool.Decides.{nat_tests}
use Rattle.model.specs.declared.refusal.Refusal.{Refusal}
use Rattle.model.specs.declared.refusal.Refusal.TheVariants.{OutsideLimits, SeatVacant, RowsFull, SpanLost, StepsSpent, NoRow, WrongPhase, Fenced, StepAhead, BelowLow, ConflictAtManager, ConflictAtEngine, KeysFull, StoreFull, BelowFloor, EntriesFull, EntryAborted, NotFenced, AboveClock, KeyPending, ClassSpent}
use Rattle.model.specs.declared.call.Call.{Call}
use Rattle.model.specs.declared.call.Answer.{Answer}
use Rattle.model.specs.declared.call.Answer.TheVariants.{Denied, Number, Value, Newest}
use Rattle.model.specs.Refusals.{refusal_place}
use Rattle.model.specs.State.{State}
use Rattle.model.specs.Step.{step}
use Rattle.model.specs.Runs.{replayed}

-- which refusal it is
abbrev kind : Refusal → ℕ
kind OutsideLimits = 1
kind (SeatVacant p) = 2
kind (RowsFull p) = 3
kind (SpanLost p) = 4
kind (StepsSpent p) = 5
kind (NoRow p) = 6
kind (WrongPhase p) = 7
kind (Fenced p) = 8
kind (StepAhead p) = 9
kind (BelowLow p) = 10
kind (ConflictAtManager p) = 11
kind (ConflictAtEngine p) = 12
kind (KeysFull p) = 13
kind (StoreFull p) = 14
kind (BelowFloor p) = 15
kind (EntriesFull p) = 16
kind (EntryAborted p) = 17
kind (NotFenced p) = 18
kind (AboveClock p) = 19
kind (KeyPending p) = 20
kind (ClassSpent p) = 21

-- the refusal of a kind and a place
abbrev refusal : ℕ → ℕ → Refusal
refusal i p =
    cond (eqb i 1) OutsideLimits
    (cond (eqb i 2) (SeatVacant p)
    (cond (eqb i 3) (RowsFull p)
    (cond (eqb i 4) (SpanLost p)
    (cond (eqb i 5) (StepsSpent p)
    (cond (eqb i 6) (NoRow p)
    (cond (eqb i 7) (WrongPhase p)
    (cond (eqb i 8) (Fenced p)
    (cond (eqb i 9) (StepAhead p)
    (cond (eqb i 10) (BelowLow p)
    (cond (eqb i 11) (ConflictAtManager p)
    (cond (eqb i 12) (ConflictAtEngine p)
    (cond (eqb i 13) (KeysFull p)
    (cond (eqb i 14) (StoreFull p)
    (cond (eqb i 15) (BelowFloor p)
    (cond (eqb i 16) (EntriesFull p)
    (cond (eqb i 17) (EntryAborted p)
    (cond (eqb i 18) (NotFenced p)
    (cond (eqb i 19) (AboveClock p)
    (cond (eqb i 20) (KeyPending p)
    (ClassSpent p))))))))))))))))))))

refusal_is : (w : Refusal) → refusal (kind w) (refusal_place w) ≡ w
refusal_is OutsideLimits = refl
refusal_is (SeatVacant p) = refl
refusal_is (RowsFull p) = refl
refusal_is (SpanLost p) = refl
refusal_is (StepsSpent p) = refl
refusal_is (NoRow p) = refl
refusal_is (WrongPhase p) = refl
refusal_is (Fenced p) = refl
refusal_is (StepAhead p) = refl
refusal_is (BelowLow p) = refl
refusal_is (ConflictAtManager p) = refl
refusal_is (ConflictAtEngine p) = refl
refusal_is (KeysFull p) = refl
refusal_is (StoreFull p) = refl
refusal_is (BelowFloor p) = refl
refusal_is (EntriesFull p) = refl
refusal_is (EntryAborted p) = refl
refusal_is (NotFenced p) = refl
refusal_is (AboveClock p) = refl
refusal_is (KeyPending p) = refl
refusal_is (ClassSpent p) = refl

-- an answer by its kind and two numbers, and back
abbrev tag : Answer ℕ → ℕ
tag (Number n) = 0
tag (Value None) = 1
tag (Value (Some x)) = 2
tag (Newest n None) = 3
tag (Newest n (Some x)) = 4
tag (Denied w) = 5

abbrev first : Answer ℕ → ℕ
first (Number n) = n
first (Value None) = 0
first (Value (Some x)) = x
first (Newest n None) = n
first (Newest n (Some x)) = n
first (Denied w) = kind w

abbrev second : Answer ℕ → ℕ
second (Number n) = 0
second (Value None) = 0
second (Value (Some x)) = 0
second (Newest n None) = 0
second (Newest n (Some x)) = x
second (Denied w) = refusal_place w

abbrev answer : ℕ → ℕ → ℕ → Answer ℕ
answer i a b =
    cond (eqb i 0) (Number a)
    (cond (eqb i 1) (Value None)
    (cond (eqb i 2) (Value (Some a))
    (cond (eqb i 3) (Newest a None)
    (cond (eqb i 4) (Newest a (Some b))
    (Denied (refusal a b))))))

answer_is : (a : Answer ℕ) → answer (tag a) (first a) (second a) ≡ a
answer_is (Number n) = refl
answer_is (Value None) = refl
answer_is (Value (Some x)) = refl
answer_is (Newest n None) = refl
answer_is (Newest n (Some x)) = refl
answer_is (Denied w) = ap Denied (refusal_is w)

abbrev same : Answer ℕ → Answer ℕ → Bool
same a b = eqb (tag a) (tag b) && (eqb (first a) (first b) && eqb (second a) (second b))

same_is : (a b : Answer ℕ) → same a b ≡ true → a ≡ b
same_is a b e =
    let i : tag a ≡ tag b = grind (arith, nat_tests) in
    let f : first a ≡ first b = grind (arith, nat_tests) in
    let g : second a ≡ second b = grind (arith, nat_tests) in
    sym (answer_is a) ∙ (ap (λ n. answer n (first a) (second a)) i ∙ (ap (λ n. answer (tag b) n (second a)) f ∙ (ap (answer (tag b) (first b)) g ∙ answer_is b)))

-- the test: these calls from s have these answers
abbrev pub answers_are : State ℕ → List (Call ℕ) → List (Answer ℕ) → Bool
answers_are s [] [] = true
answers_are s [] (a ∷ l) = false
answers_are s (c ∷ cs) [] = false
answers_are s (c ∷ cs) (a ∷ l) = let p = step s c in same p.1 a && answers_are p.0 cs l

-- what it says of the first call, and of the rest
pub first_answer : (s : State ℕ) (c : Call ℕ) (cs : List (Call ℕ)) (a : Answer ℕ) (l : List (Answer ℕ)) → answers_are s (c ∷ cs) (a ∷ l) ≡ true → ((step s c).1 ≡ a) × (answers_are (step s c).0 cs l ≡ true)
first_answer s c cs a l e = go (same (step s c).1 a) refl e
  where
    go : (b : Bool) → same (step s c).1 a ≡ b → (b && answers_are (step s c).0 cs l) ≡ true → ((step s c).1 ≡ a) × (answers_are (step s c).0 cs l ≡ true)
    go true f e = (same_is (step s c).1 a f, e)
    go false f e = grind arith

pub answers_sound : (s : State ℕ) (cs : List (Call ℕ)) (l : List (Answer ℕ)) → answers_are s cs l ≡ true → (replayed s cs).0 ≡ l
answers_sound s [] [] e = refl
answers_sound s [] (a ∷ l) e = grind arith
answers_sound s (c ∷ cs) [] e = grind arith
answers_sound s (c ∷ cs) (a ∷ l) e =
    let p = first_answer s c cs a l e in
    ap (λ b. b ∷ (replayed (step s c).0 cs).0) p.0 ∙ ap (λ r. a ∷ r) (answers_sound (step s c).0 cs l p.1)
