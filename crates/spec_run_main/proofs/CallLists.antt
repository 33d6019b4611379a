-- Programs whose loop calls are listed one after another.
use Rattle.std.proofs.Common.{◌≡◌, ℕ, List, [], ◌∷◌, ◌++◌, refl, sym, ap, append_assoc, append-nil}
use Rattle.bpf_step_model.specs.Run.{BoundedResult, Ended, Stuck, Unfinished, mapped}
use Rattle.bpf_step_model.specs.ProgramInOrder.{LoopMade, Finished, with_loop}

-- a program after loop calls that were made before
abbrev pub behind : List LoopMade → Finished → Finished
behind calls f = record { ret = f.ret; loops = calls ++ f.loops; words = f.words }

-- what main does is the whole, where it made none before
pub none_before : (e : BoundedResult Finished) → e ≡ mapped (behind []) e
none_before (Ended f) = refl
none_before Stuck = refl
none_before Unfinished = refl

-- a call more
pub one_more : (calls : List LoopMade) (made : LoopMade) (e : BoundedResult Finished)
    → mapped (behind calls) (mapped (with_loop made) e) ≡ mapped (behind (calls ++ made ∷ [])) e
one_more calls made (Ended f) =
    ap (λ (all : List LoopMade). Ended (record { ret = f.ret; loops = all; words = f.words }))
    (sym (append_assoc calls (made ∷ []) f.loops))
one_more calls made Stuck = refl
one_more calls made Unfinished = refl

-- at main's end they are all
pub all_made : (calls : List LoopMade) (ret : ℕ) (words : List ℕ)
    → mapped (behind calls) (Ended (record { ret = ret; loops = []; words = words }))
    ≡ Ended (record { ret = ret; loops = calls; words = words })
all_made calls ret words =
    ap (λ (all : List LoopMade). Ended (record { ret = ret; loops = all; words = words })) (append-nil calls)
