-- What is given of what was printed.
use Rattle.std.proofs.Common.{◌≡◌, ℕ, ℤ, ◌<◌, ◌≤◌, Bool, true, false, List, ◌++◌, length, drop, Ok, Err, Result, sym}
use Rattle.std.{proofs.{Common.{subst, arith}, lemmas.Bool.Decides.{nat_tests}}, specs.Prelude.{nat_le}}
use Rattle.std.specs.String.{string_bytes}
use Rattle.bpfspec_serve.specs.{declared.serving.Answer.{Answer as AnswerGiven}, Answering.{answer_of}, Output.{Answer}}
use Rattle.bpfspec_c.specs.Printing.{Gives, WritesIf, answer_status, given}
use Rattle.bpfspec_c.specs.Statuses as status

-- there was no memory
pub gives_nothing : {E : Type 0} (printed : Result AnswerGiven E) (result : ℤ) (before after : List ℕ) (old new : ℕ)
    (error : E) → printed ≡ Err error → result ≡ status.memory → after ≡ before → new ≡ old
    → Gives (given printed) result before after old new
gives_nothing {E} printed result before after old new error is memory same kept =
    subst (λ (p : Result AnswerGiven E). Gives (given p) result before after old new) (sym is) (memory, same, kept)

gives : {E : Type 0} (printed : Result AnswerGiven E) (result : ℤ) (before after : List ℕ) (old new : ℕ)
    (text : AnswerGiven) → printed ≡ Ok text
    → WritesIf (nat_le (length (string_bytes text.text)) (length before)) (answer_of text) result before after
    → new ≡ length (string_bytes text.text) → Gives (given printed) result before after old new
gives {E} printed result before after old new text is writes size =
    subst (λ (p : Result AnswerGiven E). Gives (given p) result before after old new) (sym is) (writes, size)

writes_none : (fits : Bool) (answer : Answer) (result : ℤ) (before after : List ℕ) → fits ≡ false
    → result ≡ status.out_of_range → after ≡ before → WritesIf fits answer result before after
writes_none false answer result before after less range same = (range, same)
writes_none true answer result before after less range same = absurd (cc)

writes_all : (fits : Bool) (answer : Answer) (result : ℤ) (before after : List ℕ) → fits ≡ true
    → result ≡ answer_status answer.served → after ≡ answer.text ++ drop (length answer.text) before
    → WritesIf fits answer result before after
writes_all true answer result before after fits is same = (is, same)
writes_all false answer result before after fits is same = absurd (cc)

-- there is too little room
pub gives_range : {E : Type 0} (printed : Result AnswerGiven E) (result : ℤ) (before after : List ℕ) (old new : ℕ)
    (text : AnswerGiven) → printed ≡ Ok text → length before < length (string_bytes text.text)
    → result ≡ status.out_of_range → after ≡ before → new ≡ length (string_bytes text.text)
    → Gives (given printed) result before after old new
gives_range printed result before after old new text is more range same size =
    let less : nat_le (length (string_bytes text.text)) (length before) ≡ false = grind (arith, nat_tests, more) in
    gives printed result before after old new text is
    (writes_none (nat_le (length (string_bytes text.text)) (length before)) (answer_of text) result before after less
    range same) size

-- there is enough
pub gives_all : {E : Type 0} (printed : Result AnswerGiven E) (result : ℤ) (before after : List ℕ) (old new : ℕ)
    (text : AnswerGiven) → printed ≡ Ok text → length (string_bytes text.text) ≤ length before
    → result ≡ answer_status text.served
    → after ≡ string_bytes text.text ++ drop (length (string_bytes text.text)) before
    → new ≡ length (string_bytes text.text) → Gives (given printed) result before after old new
gives_all printed result before after old new text is few told same size =
    let fits : nat_le (length (string_bytes text.text)) (length before) ≡ true = grind (arith, nat_tests, few) in
    gives printed result before after old new text is
    (writes_all (nat_le (length (string_bytes text.text)) (length before)) (answer_of text) result before after fits
    told same) size

-- the laws of what is given
pub ruleset give_laws = (gives_nothing, gives_range, gives_all)
