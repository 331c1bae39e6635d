use Rattle.std.proofs.Common.{rules, arith, ◌≡◌, length, map, sym, ap, ◌∙◌, subst}
use Rattle.std.specs.Prelude.{All}
use Rattle.std.specs.List.{sum_by}
use Rattle.st_answer.specs.Lending.{LendsMore}
use Rattle.st_answer.specs.Sending.{ArePickedOf}
use Rattle.st_answer.proofs.Files.{home_kept, len_kept, put_back}
use Rattle.st_answer.proofs.Reading.{heads_bound, bodies_bound}
use Rattle.st_answer.proofs.answering.answer_held.Goals as goal

pub returns-in-Ok-clause-replies : goal.returns-in-Ok-clause-replies
returns-in-Ok-clause-replies g c = (
  λ set told whole.
      let are = c.in-Ok.ensures.found.1 set told in
      let value = c.as_mut_slice.ensures.value in
      let found = subst (λ z. ArePickedOf c.args.query.now c.args.now set (map g.S.File.Reader.content z) c.in-Ok.found.items) (sym value) are in
      let all = c.in-Ok.ensures.found.2 set told whole in
      c.reply.ensures.replies c.args.query.now c.args.now set found whole all.0.distinct all.1,
  λ set told.
      let are = c.in-Ok.ensures.found.1 set told in
      c.reply.ensures.blames c.args.query.now c.args.now set (subst (λ z. ArePickedOf c.args.query.now c.args.now set (map g.S.File.Reader.content z) c.in-Ok.found.items) (sym c.as_mut_slice.ensures.value) are),
)

pub returns-in-Ok-clause-reads : goal.returns-in-Ok-clause-reads
returns-in-Ok-clause-reads g c set ans told whole is =
    let files = c.gather.new.files in
    let value = c.as_mut_slice.ensures.value in
    let rest = c.reply.ensures.same ∙ ap (map g.S.File.Reader.beside) value in
    let len = len_kept g.S.File.Reader.beside files.items c.reply.new.files rest in
    let back = put_back files.len files.items c.reply.new.files (search rules) len in
    let reads = ap (sum_by g.S.File.Reader.reads) back in
    let asked = ap (sum_by g.S.File.Reader.asked) back in
    let reads' = ap (sum_by g.S.File.Reader.reads) value in
    let asked' = ap (sum_by g.S.File.Reader.asked) value in
    bodies_bound c.args.query.now c.args.now set ans (sum_by g.S.File.Reader.reads files.items) (sum_by g.S.File.Reader.asked files.items) _ _ c.in-Ok.found.items whole is (c.in-Ok.ensures.found.2 set told whole).0
    (omega (arith, reads, reads', c.reply.ensures.asked.0)) (omega (arith, asked, asked', c.reply.ensures.asked.1))

pub returns-in-Ok-clause-files : goal.returns-in-Ok-clause-files
returns-in-Ok-clause-files g c =
    let files = c.gather.new.files in
    let rest = c.reply.ensures.same ∙ ap (map g.S.File.Reader.beside) c.as_mut_slice.ensures.value in
    let len = len_kept g.S.File.Reader.beside files.items c.reply.new.files rest in
    let back = put_back files.len files.items c.reply.new.files (search rules) len in
    let id = g.S.Store.id c.args.store.now in (
      subst (All (λ f. (g.S.Store.origin f).home ≡ id)) (sym back) (home_kept g.S.File.Reader.beside (λ f. (g.S.Store.origin f).home) (λ a b e. ap (λ o. o.home) (g.met.S.Store.keeps a b e)) files.items c.reply.new.files id rest c.gather.ensures.files.0),
      subst (λ n. LendsMore n (g.S.Store.loans c.args.store.now) (g.S.Store.loans c.gather.new.store)) (sym (ap length back ∙ len)) c.gather.ensures.files.1,
    )

pub returns-in-Err-clause-reads : goal.returns-in-Err-clause-reads
returns-in-Err-clause-reads g c set ans told whole is =
    let (ps, are) = c.gather.ensures.reads set told whole in
    heads_bound c.args.query.now c.args.now set ans _ _ ps whole is are
