use Rattle.std.proofs.Common.{get_or, Some, ap, ◌∙◌, sym}
use Rattle.table.proofs.Outcomes.{look_ok, look_err}
use Rattle.table.proofs.table.Table.look_up.Goals as goal

pub returns-in_err-p : goal.returns-in_err-p
returns-in_err-p g c = look_err c.args.self.now c.args.tag c.locate.result c.locate.ensures.bound c.locate.ensures.position (sym c.ok.ensures.value ∙ c.in_err-p.was) ∙ sym c.from_residual.ensures

pub returns : goal.returns
returns g c =
    let x = c.index-as_slice-p.result in
    look_ok c.args.self.now c.args.tag c.in_ok-p.p x c.locate.result c.locate.ensures.bound c.locate.ensures.position (sym c.ok.ensures.value ∙ c.in_ok-p.was) (c.index-as_slice-p.is ∙ ap (λ l. get_or l c.in_ok-p.p x) c.as_slice.ensures) ∙ ap Some (sym c.value.ensures)
