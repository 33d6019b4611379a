-- What is printed of an accepted program, of a program that ran, and of a loop that was replayed.
use Rattle.std.specs.{Prelude.{ℕ, ◌+◌, List, [], ◌∷◌, ◌++◌, take, drop, codes}, Fmt.{decimal, signed_decimal}}
use Rattle.bpf_text.specs.MapsText.{maps_spelling}
use Rattle.loop_core_model.specs.declared.verdict.Verdict.{Verdict, TheVariants.{Parallel, Conflict, Refused, InOrder}}
use Rattle.loop_core_model.specs.{declared.verdict.LoopReport.{LoopReport}, Report.{Reported}}
use Rattle.bpfspec_output.specs.declared.accepted.Function.{Function}

-- a line for each item, the first of which has this number
abbrev pub numbered_lines : {X : Type 0} → (ℕ → X → List ℕ) → ℕ → List X → List ℕ
numbered_lines line number [] = []
numbered_lines line number (item ∷ others) = line number item ++ numbered_lines line (number + 1) others

-- the line of a function, which has this number: where it starts, and the most instructions that it takes
abbrev pub function_line : ℕ → Function → List ℕ
function_line number function =
    codes "function " ++ decimal number ++ codes " at " ++ decimal function.start ++ codes " count "
    ++ decimal function.count ++ codes "\n"

-- that it is accepted, and the lines of its functions, main first
abbrev pub accepted_text : List Function → List ℕ
accepted_text functions = codes "accepted\n" ++ numbered_lines function_line 0 functions

-- the words of each map
abbrev pub values_of : List ℕ → List ℕ → List (List ℕ)
values_of [] words = []
values_of (size ∷ sizes) words = take size words ∷ values_of sizes (drop size words)

-- how a loop was carried out
abbrev pub verdict_text : Verdict → List ℕ
verdict_text Parallel = codes "parallel"
verdict_text (Conflict count least) = codes "conflict " ++ decimal count ++ codes " least " ++ decimal least
verdict_text Refused = codes "refused"
verdict_text InOrder = codes "in order"

-- the line of a loop call, which has this number
abbrev pub loop_line : ℕ → LoopReport → List ℕ
loop_line number line =
    codes "loop " ++ decimal number ++ codes " at " ++ decimal line.slot ++ codes ": answer "
    ++ signed_decimal line.answer ++ codes ", "
    ++ verdict_text line.verdict ++ codes "\n"

-- the return value, the loop calls, and the maps of these sizes
abbrev pub report_text : List ℕ → Reported → List ℕ
report_text sizes report = codes "return " ++ decimal report.ret ++ codes "\n"
    ++ numbered_lines loop_line 0 report.loops ++ maps_spelling (values_of sizes report.words)

-- the line of a loop call, which has this number, and the maps of these sizes after it
abbrev pub replay_text : List ℕ → ℕ → LoopReport → List ℕ → List ℕ
replay_text sizes number line words = loop_line number line ++ maps_spelling (values_of sizes words)
