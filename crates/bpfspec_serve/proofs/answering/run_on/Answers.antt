use Rattle.bpfspec_serve.proofs.answering.run_on.Goals as goal

pub returns-in-Ok : goal.returns-in-Ok
returns-in-Ok g c =
    let ran = c.in-Ok.ensures.headline.gives in (
      (λ within. (
        record {
          ret = c.in-Ok.report.ret;
          loops = c.in-Ok.report.loops.items;
          words = c.run_observed.new.maps.words;
        },
        ran.gives,
        rw (c.in_ok-print_report-in-Ok.ensures, c.deref.ensures.value, ran.kept, ran.sizes),
      )),
      (λ outside. absurd cc (c.in-Ok.ensures.plan.1 (c.requires, outside))),
    )
