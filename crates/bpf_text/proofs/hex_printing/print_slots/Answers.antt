use Rattle.std.proofs.Common.{◌≡◌, ◌++◌, codes, take, drop, ap, sym, ◌∙◌, append_assoc, arith}
use Rattle.std.{proofs.lemmas.List.{append-nil, take_rest}, specs.String.{string_bytes}}
use Rattle.hex.specs.Hex.{encode_lower}
use Rattle.bpf_text.{specs.PrintedUnits.{slot_lines}, proofs.HexLines.{slot_lines-slot, slot_lines-end}}
use Rattle.bpf_text.proofs.hex_printing.print_slots.Goals as goal

pub loop-rest-preserved : goal.loop-rest-preserved
loop-rest-preserved c =
    let rest = c.loop-rest.rest.now in
    let out = string_bytes c.loop-rest.out in
    let printed : string_bytes c.writeln.new.self ≡ out ++ (encode_lower (take 8 rest) ++ codes "\n") =
    c.in_ok-writeln.ensures.bytes ∙ ap (λ text. out ++ (text ++ codes "\n")) c.in_ok-digits.ensures in
    rw (take_rest rest 8, printed) (append_assoc out (encode_lower (take 8 rest) ++ codes "\n")
    (slot_lines (drop 8 rest)) ∙ rw (slot_lines-slot rest (omega arith)) at c.loop-rest.invariant)

pub returns : goal.returns
returns c = sym (append-nil (string_bytes c.loop-rest.out))
    ∙ rw (slot_lines-end c.loop-rest.rest.now (omega arith)) at c.loop-rest.invariant
