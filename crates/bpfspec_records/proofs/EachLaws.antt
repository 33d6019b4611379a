-- Records that are added one after the other, as loops do.
use Rattle.std.proofs.Common.{◌≡◌, ℕ, zero, suc, ◌+◌, ◌<◌, List, [], ◌∷◌, ◌++◌, length, drop, get_or, append-nil}
use Rattle.std.proofs.Common.{append_assoc, add-one, sym, ap, ◌∙◌, arith, Option}
use Rattle.bpf_insn_types.specs.{declared.insn.Insn.{Insn}, Program.{Program}}
use Rattle.bpf_verify_model.specs.declared.{abstract_value.AbstractValue.{AbstractValue}, state.State.{State}}
use Rattle.bpf_verify_model.specs.States.{known_register}
use Rattle.bpfspec_records.specs.declared.records.Record.{Record}
use Rattle.bpfspec_records.specs.Units.{each_below, read_record, value_record}

-- of no number there are no records
pub each_begun : (records : ℕ → List Record) (start : List Record) → start ≡ start ++ each_below records 0
unfolding each_below
each_begun records start = sym (append-nil start)

-- one number more
pub each_next : (records : ℕ → List Record) (n : ℕ) (start before after : List Record)
    → before ≡ start ++ each_below records n → after ≡ before ++ records n → after ≡ start ++ each_below records (n + 1)
unfolding each_below
each_next records n start before after is added =
    rw add-one (added ∙ ap (λ (rs : List Record). rs ++ records n) is
    ∙ append_assoc start (each_below records n) (records n))

front_suc : {X : Type 0} (xs : List X) (i : ℕ) (x : X) → i < length xs → x ≡ get_or xs i x → drop i xs ≡ x
    ∷ drop (suc i) xs
front_suc [] i x within read = absurd (omega arith)
front_suc (first ∷ xs) zero x within read = ap (λ y. y ∷ xs) (sym read)
front_suc (first ∷ xs) (suc i) x within read = front_suc xs i x (omega arith) read

-- an element, and those after it
pub front : {X : Type 0} (xs : List X) (i : ℕ) (x : X) → i < length xs → x ≡ get_or xs i x → drop i xs ≡ x
    ∷ drop (i + 1) xs
front xs i x within read = rw add-one (front_suc xs i x within read)

-- the value of one register more
pub value_next : (slot : ℕ) (to : Option ℕ) (state : State) (n register : ℕ) (value : AbstractValue)
    (start before after : List Record)
    → before ≡ start ++ each_below (λ r. value_record slot to r (known_register state r)) n → register ≡ n
    → value ≡ known_register state register → after ≡ before ++ value_record slot to register value
    → after ≡ start ++ each_below (λ r. value_record slot to r (known_register state r)) (n + 1)
value_next slot to state n register value start before after is same known added =
    each_next (λ r. value_record slot to r (known_register state r)) n start before after is
    (added ∙ ap (λ (v : AbstractValue). before ++ value_record slot to register v) known
    ∙ ap (λ (r : ℕ). before ++ value_record slot to r (known_register state r)) same)

-- the source of one register more
pub read_next : (program : Program) (slot : ℕ) (insn : Insn) (n register : ℕ) (start before after : List Record)
    → before ≡ start ++ each_below (read_record program slot insn) n → register ≡ n
    → after ≡ before ++ read_record program slot insn register
    → after ≡ start ++ each_below (read_record program slot insn) (n + 1)
read_next program slot insn n register start before after is same added =
    each_next (read_record program slot insn) n start before after is
    (added ∙ ap (λ (r : ℕ). before ++ read_record program slot insn r) same)
