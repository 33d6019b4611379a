-- The numbers of a line are of their field.
use Rattle.std.proofs.Common.{◌≡◌, ℕ, ◌<◌, ◌≤◌, Bool, true, cond, List, [], ◌∷◌, length, get_or, Result, Ok, Err, refl}
use Rattle.std.{proofs.Common.{subst}, specs.{Prelude.{IfOk, All}, List.{list_all}}}
use Rattle.std.proofs.lemmas.List.Elements.{All-nil, All-cons}
use Rattle.bpf_text_lex.specs.declared.text_error.TextFault.{TextFault}
use Rattle.bpf_text_lex.specs.{Numbers.{is_number, number_in}, Fields.{numbers_in, fields_of}}
use Rattle.bpf_text_lex.{specs.Refusals.{at_line, with_first_item}, proofs.SpellingLaws.{read_as}}
use Rattle.bpf_text_lex.specs.declared.text_error.TextFault.TheVariants as faults

if_read : (limit : ℕ) (r : Result ℕ TextFault) → ((n : ℕ) → r ≡ Ok n → n ≤ limit) → IfOk r (λ n. n ≤ limit)
if_read limit (Ok n) small = small n refl
if_read limit (Err fault) small = tt

both_small : (limit : ℕ) (first : Result ℕ TextFault) (others : Result (List ℕ) TextFault) → IfOk first (λ n. n ≤ limit)
    → IfOk others (All (λ n. n ≤ limit)) → IfOk (with_first_item first others) (All (λ n. n ≤ limit))
both_small limit (Ok n) (Ok ns) one more = All-cons (λ m. m ≤ limit) n ns one more
both_small limit (Ok n) (Err fault) one more = tt
both_small limit (Err fault) others one more = tt

numbers_small : (limit : ℕ) (words : List (List ℕ)) → IfOk (numbers_in limit words) (All (λ n. n ≤ limit))
numbers_small limit [] = All-nil (λ n. n ≤ limit)
numbers_small limit (word ∷ words) = both_small limit (number_in limit word) (numbers_in limit words)
    (if_read limit (number_in limit word) (λ n e. (read_as limit word n e).2)) (numbers_small limit words)

tested : (t : Bool) (r : Result (List ℕ) TextFault) (limit line : ℕ) (ns : List ℕ) → IfOk r (All (λ n. n ≤ limit))
    → at_line line (cond t r (Err faults.Form)) ≡ Ok ns → All (λ n. n ≤ limit) ns
tested true (Ok ms) limit line ns small e = (let same : ms ≡ ns = cc in subst (All (λ n. n ≤ limit)) same small)
tested _ _ limit line ns small e = absurd cc

pub fields_small : (limit line : ℕ) (words : List (List ℕ)) (ns : List ℕ) → at_line line (fields_of limit words) ≡ Ok ns
    → (k d : ℕ) → k < length ns → get_or ns k d ≤ limit
fields_small limit line words ns e =
    tested (list_all is_number words) (numbers_in limit words) limit line ns (numbers_small limit words) e
