use Rattle.std.proofs.Common.{arith, subst}
use Rattle.bpf_insn_types.specs.Outcome.{MatchesUnlessMemory}
use Rattle.bpf_insn.{specs.CodecRefusal.{codec_refusal}, proofs.{Programs.{reading_again}, Decoded.{if_found}}}
use Rattle.bpf_insn.proofs.decoding.decode.Goals as goal

pub returns-clause-found : goal.returns-clause-found
returns-clause-found c = if_found c.args.bytes.now c.all.result (λ i. omega (arith, c.type_inv.bytes i)) c.all.ensures

pub returns-clause-only : goal.returns-clause-only
returns-clause-only c = λ insns fits e. subst (λ r. MatchesUnlessMemory codec_refusal (λ v. v.items) c.all.result r)
    (reading_again insns c.args.bytes.now fits e) c.all.ensures
