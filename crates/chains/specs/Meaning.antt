-- What chains mean.
use Rattle.std.specs.Prelude.{ℕ, List, length, None}
use Rattle.model.specs.declared.words.Record.{Record}
use Rattle.chains.specs.declared.node.Node.{Node}
use Rattle.chains.specs.declared.chains.Chains.{Chains}
use Rattle.chains.specs.Links.{canon}

module _ {V : Type 0} where
  -- the records on the chains, in order
  abbrev pub chained : Chains V → List (Record V)
  chained s = canon s.nodes.now

  -- how many records they have nodes for
  abbrev pub places : Chains V → ℕ
  places s = length s.nodes.now

  -- a node on no chain
  abbrev pub free_node : Node V
  free_node = record { «record» = None; next = None }
