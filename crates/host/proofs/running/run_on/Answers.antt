use Rattle.std.proofs.Common.{length, ap, ◌∙◌}
use Rattle.host.proofs.Runs.{on_fresh}
use Rattle.host.proofs.running.run_on.Goals as goal

pub returns-in_ok-memory-in-Shelf : goal.returns-in_ok-memory-in-Shelf
returns-in_ok-memory-in-Shelf g c =
    let s = c.shelf-shelf.ensures in
    on_fresh _ _ _ _ _ (s.whole ∙ (ap length c.in_ok-memory-in-Shelf.ensures.holds.0 ∙ (c.as_mut_slice.ensures.len ∙ c.in_ok-records-in-Shelf.ensures.len))) (ap length s.empty) c.with_commits.ensures

pub returns-in_ok-lent-in-Chains : goal.returns-in_ok-lent-in-Chains
returns-in_ok-lent-in-Chains g c =
    let s = c.chains-chains.ensures in
    on_fresh _ _ _ _ _ (s.whole ∙ (ap length c.in_ok-lent-in-Chains.ensures.holds ∙ (c.as_mut_slice-in-Chains.ensures.len ∙ c.in_ok-nodes-in-Chains.ensures.len))) (ap length s.empty) c.with_commits-in-Chains.ensures
