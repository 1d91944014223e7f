use Rattle.std.proofs.Common.{refl}
use Rattle.chains.proofs.Redirecting.{redirected_node}
use Rattle.chains.proofs.relink.redirect.Goals as goal

pub returns-in-Some : goal.returns-in-Some
returns-in-Some g c =
    let ns = c.args.nodes.now in
    let hs = c.args.heads.now in
    rw c.in-Some.is (redirected_node ns hs c.args.chain c.in-Some.at c.args.to c.index-nodes-at.result _ (c.requires.inside c.in-Some.at c.in-Some.is) refl refl)
