-- Nodes in 64 chains: the columns of a list of nodes, and when the chains are sound.
use Rattle.std.specs.Prelude.{◌≡◌, ℕ, zero, suc, ◌+◌, ◌*◌, ◌%◌, ◌<◌, ◌≤◌, cond, is_some, List, [], ◌∷◌, map, length, Some, None, Option, ◌≢◌, slice_index, slice_index_or}
use Rattle.std.specs.Option.{option_map_or}
use Rattle.model.specs.declared.words.Record.{Record}
use Rattle.chains.specs.declared.node.Node.{Node}
use Rattle.model.specs.Records.{put}

-- version and key as one number, the version first: the order of a chain
abbrev pub tag : ℕ → ℕ → ℕ
tag k v = v * 18446744073709551616 + k

-- the chain that a key belongs to
abbrev pub class_of : ℕ → ℕ
class_of k = k % 64

-- Below, C i is the chain of the node i, T i its tag, N the number of nodes, and Y c p the node after p on the chain c: after the node i where p is Some i, and the first
-- of the chain where p is None.

-- p is the start of the chain c, or a node on it
abbrev pub On : ℕ → (ℕ → ℕ) → ℕ → Option ℕ → Type 0
On N C c p = (i : ℕ) → p ≡ Some i → (i < N) × (C i ≡ c)

-- p stands over the tag t: it is the start, or has a greater one
abbrev pub Over : (ℕ → ℕ) → Option ℕ → ℕ → Type 0
Over T p t = (i : ℕ) → p ≡ Some i → t < T i

-- more than the tags that are left from q on, and none at the end: what is left of a walk
abbrev pub left_from : (ℕ → ℕ) → Option ℕ → ℕ
left_from T None = 0
left_from T (Some i) = suc (T i)

-- the node after p is on the same chain, under p
abbrev pub NextIn : ℕ → (ℕ → ℕ) → (ℕ → ℕ) → (ℕ → Option ℕ → Option ℕ) → Type 0
NextIn N C T Y = (c : ℕ) (p : Option ℕ) (j : ℕ) → (c < 64) × On N C c p × (Y c p ≡ Some j) → (j < N) × (C j ≡ c) × Over T p (T j)

-- and no node of the chain under p has a greater tag
abbrev pub NextTop : ℕ → (ℕ → ℕ) → (ℕ → ℕ) → (ℕ → Option ℕ → Option ℕ) → Type 0
NextTop N C T Y = (c : ℕ) (p : Option ℕ) (k : ℕ) → (c < 64) × On N C c p × (k < N) × (C k ≡ c) × Over T p (T k) → T k < left_from T (Y c p)

-- no two nodes of a chain have one tag
abbrev pub Apart : ℕ → (ℕ → ℕ) → (ℕ → ℕ) → Type 0
Apart N C T = (i k : ℕ) → (i < N) × (k < N) × (C i < 64) × (C i ≡ C k) × (T i ≡ T k) → i ≡ k

pub record Linked (N : ℕ) (C T : ℕ → ℕ) (Y : ℕ → Option ℕ → Option ℕ) : Type 0 where
  pub next_in : NextIn N C T Y
  pub next_top : NextTop N C T Y
  pub apart : Apart N C T

-- where n steps from o lead, with X i after i
abbrev pub trail : (ℕ → Option ℕ) → Option ℕ → ℕ → Option ℕ
trail X o zero = o
trail X None (suc n) = None
trail X (Some i) (suc n) = trail X (X i) n

-- F steps from o to the end, over free nodes
pub record Freed (N F : ℕ) (C : ℕ → ℕ) (X : ℕ → Option ℕ) (o : Option ℕ) : Type 0 where
  pub inside : (m i : ℕ) → (m < F) × (trail X o m ≡ Some i) → (i < N) × (C i ≡ 64)
  pub full : (m : ℕ) → (m < F) × (trail X o m ≡ None) → ⊥
  pub ends : trail X o F ≡ None

-- the first node of the chain c
abbrev pub head_at : List (Option ℕ) → ℕ → Option ℕ
head_at hs c = slice_index_or hs c None

module _ {V : Type 0} where
  -- one column of the nodes, 0 past their end
  abbrev pub col : (Node V → ℕ) → List (Node V) → ℕ → ℕ
  col f ns i = slice_index (map f ns) i

  -- the chain that a node is on; 64 where it is free
  abbrev pub chain_of : Node V → ℕ
  chain_of n = option_map_or (λ r. class_of r.key) n.record 64

  -- the node after the node i
  abbrev pub next_at : List (Node V) → ℕ → Option ℕ
  next_at ns i = slice_index_or (map (λ n. n.next) ns) i None

  -- the node after p on the chain c
  abbrev pub next_on : List (Node V) → List (Option ℕ) → ℕ → Option ℕ → Option ℕ
  next_on ns hs c None = head_at hs c
  next_on ns hs c (Some i) = next_at ns i

  -- the key, the version and the tag of a node's record; 0 where the node is free
  abbrev pub key_of : Node V → ℕ
  key_of n = option_map_or (λ r. r.key) n.record 0

  abbrev pub version_of : Node V → ℕ
  version_of n = option_map_or (λ r. r.version) n.record 0

  abbrev pub tag_of : Node V → ℕ
  tag_of n = option_map_or (λ r. tag r.key r.version) n.record 0

  -- how many nodes have a record
  abbrev pub live_count : List (Node V) → ℕ
  live_count [] = 0
  live_count (n ∷ ns) = cond (is_some n.record) (suc (live_count ns)) (live_count ns)

  -- the records of the nodes, in order
  abbrev pub canon : List (Node V) → List (Record V)
  canon [] = []
  canon (n ∷ ns) = option_map_or (λ r. put r (canon ns)) n.record (canon ns)

  -- the nodes, with the first nodes hs of the chains, and F free nodes from o on
  pub record Sound (ns : List (Node V)) (hs : List (Option ℕ)) (o : Option ℕ) (F : ℕ) : Type 0 where
    pub linked : Linked (length ns) (col chain_of ns) (col tag_of ns) (next_on ns hs)
    pub freed : Freed (length ns) F (col chain_of ns) (next_at ns) o
    pub total : live_count ns + F ≡ length ns

  -- the way to a place: p is over it on the key's chain, and q comes after p
  pub record Walked (ns : List (Node V)) (hs : List (Option ℕ)) (k v : ℕ) (p q : Option ℕ) : Type 0 where
    pub on : On (length ns) (col chain_of ns) (class_of k) p
    pub over : Over (col tag_of ns) p (tag k v)
    pub next : next_on ns hs (class_of k) p ≡ q

  -- the node q is on a chain, and has the record of that key and version
  pub record Standing (ns : List (Node V)) (k v q : ℕ) : Type 0 where
    pub inside : q < length ns
    pub chain : col chain_of ns q ≡ class_of k
    pub key : col key_of ns q ≡ k
    pub version : col version_of ns q ≡ v

  -- it was found at q
  pub record Found (ns : List (Node V)) (hs : List (Option ℕ)) (k v : ℕ) (p : Option ℕ) (q : ℕ) : Type 0 where
    pub walked : Walked ns hs k v p (Some q)
    pub standing : Standing ns k v q

  -- it was not found: it would go between p and q
  pub record Absent (ns : List (Node V)) (hs : List (Option ℕ)) (k v : ℕ) (p q : Option ℕ) : Type 0 where
    pub walked : Walked ns hs k v p q
    pub below : left_from (col tag_of ns) q ≤ tag k v

  -- the records of the key at or below the bound are at q or after it
  pub record Toward (ns : List (Node V)) (k b : ℕ) (q : Option ℕ) : Type 0 where
    pub on : On (length ns) (col chain_of ns) (class_of k) q
    pub rest : (i : ℕ) → i < length ns → col chain_of ns i ≡ class_of k → col key_of ns i ≡ k → col version_of ns i ≤ b → col tag_of ns i < left_from (col tag_of ns) q

  -- the node after p on the chain c becomes x
  pub record Redirected (ns ms : List (Node V)) (hs gs : List (Option ℕ)) (c : ℕ) (p x : Option ℕ) : Type 0 where
    pub long : length ms ≡ length ns
    pub chains : (j : ℕ) → col chain_of ms j ≡ col chain_of ns j
    pub keys : (j : ℕ) → col key_of ms j ≡ col key_of ns j
    pub versions : (j : ℕ) → col version_of ms j ≡ col version_of ns j
    pub records : canon ms ≡ canon ns
    pub lives : live_count ms ≡ live_count ns
    pub here : next_on ms gs c p ≡ x
    pub next_else : (j : ℕ) → (p ≢ Some j) → next_at ms j ≡ next_at ns j
    pub head_else : (a : ℕ) → (p ≡ None → a ≢ c) → head_at gs a ≡ head_at hs a

  -- the first n nodes are free
  abbrev pub AllFree : List (Node V) → ℕ → Type 0
  AllFree ns n = (j : ℕ) → j < n → col chain_of ns j ≡ 64
