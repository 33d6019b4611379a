-- What is said of words, by the kinds of error that clap may give.
use Rattle.std.proofs.Common.{◌≡◌, ◌≢◌, ◌⊎◌, inl, inr, subst, true, List, Result}
use Rattle.clap.specs.Words.{App, FailsBy, IsAmong, Kinds, Text, fault_of, is_simple_and_free}
use Rattle.clap.specs.declared.error.{Error.{Error}, kind.ErrorKind.{ErrorKind}}
use Rattle.clap.specs.declared.error.kind.ErrorKind.TheVariants.{DisplayHelp, DisplayVersion, OutOfMemory}
use Rattle.bpfspec_command_line.specs.Faults.{Shows}

-- of the kinds that an error may have, where it shows help or the version
pub asked : (kinds : Kinds) (kind : ErrorKind) → (kind ≡ OutOfMemory) ⊎ IsAmong kind kinds → Shows kind
    → IsAmong DisplayHelp kinds ⊎ IsAmong DisplayVersion kinds
asked kinds kind (inl out) (inl help) = absurd cc
asked kinds kind (inl out) (inr version) = absurd cc
asked kinds kind (inr among) (inl help) = inl (subst (λ k. IsAmong k kinds) help among)
asked kinds kind (inr among) (inr version) = inr (subst (λ k. IsAmong k kinds) version among)

-- and where it shows neither
pub wrong : (kinds : Kinds) (kind : ErrorKind) → (kind ≡ OutOfMemory) ⊎ IsAmong kind kinds → kind ≢ OutOfMemory
    → ¬ (Shows kind) → (k : ErrorKind) × IsAmong k kinds × ¬ (Shows k)
wrong kinds kind (inl out) memory shown = absurd (memory out)
wrong kinds kind (inr among) memory shown = (kind, among, shown)

-- how the parse of a command line may fail
pub fails_of : {T : Type 0} {made app : App} (words : List Text) (result : Result T Error) → made ≡ app
    → is_simple_and_free app ≡ true → (is_simple_and_free made ≡ true → FailsBy (fault_of made words) result)
    → FailsBy (fault_of app words) result
fails_of words result is simple fails =
    subst (λ (a : App). is_simple_and_free a ≡ true → FailsBy (fault_of a words) result) is fails simple
