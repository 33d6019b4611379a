-- A printed line is no label.
use Rattle.std.proofs.Common.{◌≡◌, ℕ, ◌+◌, ◌-◌, false, ◌==◌, get_or, List, [], ◌∷◌, ◌++◌, length, ap, ◌∙◌, arith}
use Rattle.std.proofs.{lemmas.{List.{length-append}, Bool.{and_left}}, Math.Seq.{get_or-append_seam}}
use Rattle.bpf_text_lex.{specs.Names.{is_name}, proofs.{SolidWords.{Ends, Line}, PrintedLineLaws.{solid_no_colon}}}
use Rattle.bpf_text.specs.AssemblerText.{name_of, is_label}

last_byte : (line : List ℕ) → (e : Ends line) → get_or line (length line - 1) 0 ≡ e.last
last_byte line e =
    let long : length (e.front ++ e.last ∷ []) ≡ length e.front + 1 = length-append e.front (e.last ∷ []) in
    let at : length (e.front ++ e.last ∷ []) - 1 ≡ length e.front = omega (arith, long) in
    ap (λ (x : List ℕ). get_or x (length x - 1) 0) e.whole ∙ ap (λ n. get_or (e.front ++ e.last ∷ []) n 0) at
    ∙ get_or-append_seam e.front e.last [] 0

-- a printed line is no label
pub no_label : (line : List ℕ) → Line line → is_label line ≡ false
no_label line l = and_left (get_or line (length line - 1) 0 == 58) (is_name (name_of line))
    (ap (λ b. b == 58) (last_byte line l.ends) ∙ solid_no_colon l.ends.last l.ends.solid)
