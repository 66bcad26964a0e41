-- What new bytes of a file mean for the keys.
use Rattle.std.proofs.Common.{◌≡◌, ℕ, List, Option, Some, None, IsSome, Result, Ok, Err, is_ok, OnOk, if◌then◌else◌, refl, sym, ap, subst, ◌∙◌, true≢false}
use Rattle.std.specs.Option.{option_and_then}
use Rattle.std.specs.Prelude.{option_map}
use Rattle.slab.specs.Slab.{get, with_value}
use Rattle.ov_base.specs.declared.bytes.Content.{Content}
use Rattle.ov_base.specs.declared.bytes.Content.TheVariants as content
use Rattle.plain_model.specs.Layers as layers
use Rattle.plain_model.specs.Layers.{Path, IsLayer}
use Rattle.layer_tree.specs.Tree.{Tree, table_of, inode_of, seen, entry, seen_at, inode_at, bytes_at, own_at, file_bytes, unmarked_bytes, names_room, layer_of, with_bytes, IsTree, Writes, SameObjects}
use Rattle.layer_tree.specs.Nameless.{IsNameless}
use Rattle.layer_tree.specs.ContentChange.{SetsBytes}
use Rattle.layer_tree.specs.Change.{node_own, with_file}
use Rattle.layer_tree.specs.declared.node.Inode as stored
use Rattle.layer_tree.specs.declared.node.Node.{Node}
use Rattle.layer_tree.specs.declared.node.Node.TheVariants as node
use Rattle.layer_tree.proofs.Roots.{links_of, IsTree-alike, SameObjects-alike}
use Rattle.layer_tree.proofs.Layers.{IsLayer-alike}
use Rattle.layer_tree.proofs.Replacing.{updates, same_reading, same_entries, same_room, still_nameless}

-- what is there can be named
pub some_of : {A : Type 0} (o : Option A) → IsSome o → (x : A) × (o ≡ Some x)
some_of None h = absurd (true≢false (sym h))
some_of (Some x) h = (x, refl)

-- a file with bytes of its own bears no mark, and these are its bytes
pub own_file : (m : Option Path) (c : Content) (l : List ℕ) → unmarked_bytes m c ≡ Some l → (m ≡ None) × (file_bytes c ≡ Some l)
own_file None c l h = (refl, h)
own_file (Some q) c l h = absurd (cc)

-- what maps to none is none
pub unmapped : {A B : Type 0} (f : A → B) (o : Option A) → option_map f o ≡ None → o ≡ None
unmapped f None h = refl
unmapped f (Some x) h = absurd (cc)

pub own_bytes : (i : stored.Inode) (l : List ℕ) → node_own (node.Inode i) ≡ Some l → file_bytes i.content ≡ Some l
own_bytes i l own = (own_file (option_map (λ b. b.value) i.mark) i.content l own).1

-- and it with other bytes is the node with these bytes of its own
pub own_node : (i : stored.Inode) (now : Content) (l bytes : List ℕ) → node_own (node.Inode i) ≡ Some l → (file_bytes i.content ≡ Some l → now ≡ content.File bytes) → node.Inode (record i { content = now }) ≡ with_file bytes (node.Inode i)
own_node i now l bytes own wrote =
    let bare : (option_map (λ b. b.value) i.mark ≡ None) × (file_bytes i.content ≡ Some l) = own_file (option_map (λ b. b.value) i.mark) i.content l own in
    ap (λ (x : Content). node.Inode (record i { content = x })) (wrote bare.1)
    ∙ ap (λ m. node.Inode (record i { content = content.File bytes; mark = m })) (unmapped (λ b. b.value) i.mark bare.0)

-- the bytes under a key are those of the node there
bytes_found : (t : Tree) (key : ℕ) (n : Node) → get t key ≡ Some n → own_at t key ≡ node_own n
bytes_found t key n found = ap (λ (o : Option Node). option_and_then (λ (i : layers.Inode). unmarked_bytes i.mark i.content) (option_and_then inode_of o)) found

-- other bytes leave the names, what is seen, and the links
file_leaves_names : (bytes : List ℕ) (n : Node) → table_of (with_file bytes n) ≡ table_of n
file_leaves_names bytes (node.Directory d) = refl
file_leaves_names bytes (node.Inode i) = refl

file_leaves_seen : (bytes : List ℕ) (n : Node) (k : ℕ) → seen k (with_file bytes n) ≡ seen k n
file_leaves_seen bytes (node.Directory d) k = refl
file_leaves_seen bytes (node.Inode i) k = refl

file_leaves_links : (bytes : List ℕ) (n : Node) → option_map links_of (inode_of (with_file bytes n)) ≡ option_map links_of (inode_of n)
file_leaves_links bytes (node.Directory d) = refl
file_leaves_links bytes (node.Inode i) = refl

module _ (old : Tree) (key : ℕ) (before : Node) (found : get old key ≡ Some before) (bytes : List ℕ) where
  abbrev pub after : Tree
  after = with_value old key (with_file bytes before)

  entries_written : (d : ℕ) (name : List ℕ) → entry after d name ≡ entry old d name
  entries_written = same_entries old key before (with_file bytes before) found (file_leaves_names bytes before)

  seen_written : (k : ℕ) → seen_at after k ≡ seen_at old k
  seen_written k = same_reading old key before (with_file bytes before) found (option_map (seen k)) (ap Some (file_leaves_seen bytes before k)) k

  links_written : (k : ℕ) → option_map links_of (inode_at after k) ≡ option_map links_of (inode_at old k)
  links_written = same_reading old key before (with_file bytes before) found (λ o. option_map links_of (option_and_then inode_of o)) (file_leaves_links bytes before)

  pub IsTree-written : IsTree old → IsTree after
  IsTree-written tree = IsTree-alike old after entries_written seen_written links_written tree

  pub SameObjects-written : SameObjects (layer_of old) (layer_of after)
  SameObjects-written = SameObjects-alike old after entries_written seen_written

  pub IsLayer-written : IsLayer (layer_of old) → IsLayer (layer_of after)
  IsLayer-written = IsLayer-alike (layer_of old) (layer_of after) SameObjects-written links_written

  pub writes : Writes old after key bytes
  writes =
      let u = updates old key before (with_file bytes before) found in
      record {
        there = ap (option_and_then inode_of) u.changed ∙ of before ∙ sym (ap (λ o. option_map (with_bytes bytes) (option_and_then inode_of o)) found);
        inodes = λ k differs. ap (option_and_then inode_of) (u.others k differs);
        entries = entries_written;
        seen = seen_written;
      }
    where
      of : (n : Node) → inode_of (with_file bytes n) ≡ option_map (with_bytes bytes) (inode_of n)
      of (node.Directory d) = refl
      of (node.Inode i) = refl

  -- with an inode under the key every path holds what it held
  sets_bytes : (i : layers.Inode) → inode_at old key ≡ Some i → SetsBytes (layer_of old) (layer_of after) key bytes
  sets_bytes i is = record { inode = i; before = is; now = writes.there ∙ ap (option_map (with_bytes bytes)) is; inodes = writes.inodes; objects = SameObjects-written }

-- what new bytes of the file under a key leave of a layer
pub record Rewritten (old new : Tree) (key : ℕ) (bytes : List ℕ) : Type 0 where
  pub tree : IsTree old → IsTree new
  pub writes : Writes old new key bytes
  pub sets : SetsBytes (layer_of old) (layer_of new) key bytes
  pub room : (d : ℕ) → names_room new d ≡ names_room old d
  pub layer : IsLayer (layer_of old) → IsLayer (layer_of new)
  pub nameless : (k : ℕ) → IsNameless old k → IsNameless new k

-- a file is an inode
file_there : {A : Type 0} (f : layers.Inode → Option A) (o : Option layers.Inode) (l : A) → option_and_then f o ≡ Some l → (i : layers.Inode) × (o ≡ Some i)
file_there f None l e = absurd (cc)
file_there f (Some i) l e = (i, refl)

-- new bytes under a key leave that
rewritten_at : (old : Tree) (key : ℕ) (before : Node) (found : get old key ≡ Some before) (bytes : List ℕ) (i : layers.Inode) → inode_at old key ≡ Some i → Rewritten old (with_value old key (with_file bytes before)) key bytes
rewritten_at old key before found bytes i is =
    record {
      tree = IsTree-written old key before found bytes;
      writes = writes old key before found bytes;
      sets = sets_bytes old key before found bytes i is;
      room = same_room old key before (with_file bytes before) found (file_leaves_names bytes before);
      layer = IsLayer-written old key before found bytes;
      nameless = still_nameless old key before (with_file bytes before) found (file_leaves_names bytes before);
    }

-- so for what is seen of the layer, where the node under the key is changed so
rewritten_by : (inside now : Tree) → inside ≡ now → (key : ℕ) (before after : Node) → get inside key ≡ Some before → (bytes : List ℕ) → after ≡ with_file bytes before → (i : layers.Inode) → inode_at now key ≡ Some i → Rewritten now (with_value inside key after) key bytes
rewritten_by inside now view key before after found bytes changed i is =
    let here : inode_at inside key ≡ Some i = ap (λ (s : Tree). inode_at s key) view ∙ is in
    let whole : Rewritten inside (with_value inside key after) key bytes = subst (λ (n : Node). Rewritten inside (with_value inside key n) key bytes) (sym changed) (rewritten_at inside key before found bytes i here) in
    subst (λ (s : Tree). Rewritten s (with_value inside key after) key bytes) view whole

-- the node under the key of a file has its bytes, for what is seen of the layer
pub bytes_seen : (inside now : Tree) → inside ≡ now → (key : ℕ) (before : Node) → get inside key ≡ Some before → (l : List ℕ) → own_at now key ≡ Some l → node_own before ≡ Some l
bytes_seen inside now view key before found l is = sym (bytes_found inside key before found) ∙ ap (λ (s : Tree). own_at s key) view ∙ is

-- a node that is changed in its bytes leaves that, for what is seen of the layer
pub rewritten : (inside now : Tree) → inside ≡ now → (key : ℕ) (before after : Node) → get inside key ≡ Some before → (change : List ℕ → List ℕ) → ((l : List ℕ) → node_own before ≡ Some l → after ≡ with_file (change l) before) → (l : List ℕ) → own_at now key ≡ Some l → Rewritten now (with_value inside key after) key (change l)
rewritten inside now view key before after found change wrote l is =
    let i = file_there (λ (i : layers.Inode). unmarked_bytes i.mark i.content) (inode_at now key) l is in
    rewritten_by inside now view key before after found (change l) (wrote l (bytes_seen inside now view key before found l is)) i.0 i.1

-- and a file that gets bytes of its own
pub filled : (inside now : Tree) → inside ≡ now → (key : ℕ) (before after : Node) → get inside key ≡ Some before → (bytes : List ℕ) → after ≡ with_file bytes before → IsSome (bytes_at now key) → Rewritten now (with_value inside key after) key bytes
filled inside now view key before after found bytes changed there =
    let l = some_of (bytes_at now key) there in
    let i = file_there (λ (i : layers.Inode). file_bytes i.content) (inode_at now key) l.0 l.1 in
    rewritten_by inside now view key before after found bytes changed i.0 i.1

-- what holds of bytes that change on a good answer alone holds of the changed bytes on one
pub if_ok : {A E : Type 0} (change : List ℕ → List ℕ) (P : (List ℕ → List ℕ) → Type 0) (r : Result A E) → P (λ l. if is_ok r then change l else l) → OnOk r (P change)
if_ok change P (Ok x) h = h
if_ok change P (Err e) h = tt
