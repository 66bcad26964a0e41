-- What other marks of a directory mean for the keys, and for the layer that they make.
use Rattle.std.proofs.Common.{◌≡◌, ◌≢◌, ℕ, Some, IsTrue, is_some, refl, sym, ap, ◌∙◌, inl, inr, true≢false}
use Rattle.std.specs.Option.{option_and_then}
use Rattle.std.specs.Prelude.{option_map}
use Rattle.std.proofs.lemmas.Bool.{cases_eq}
use Rattle.slab.specs.Slab.{get, with_value}
use Rattle.plain_model.specs.Layers.{Path, IsLayer}
use Rattle.layer_tree.specs.Tree.{Tree, ROOT, table_of, inode_of, seen, child, key_at, inode_at, layer_of, leads, leads_on, IsDirectory, IsTree}
use Rattle.layer_tree.specs.Nameless.{IsNameless}
use Rattle.layer_tree.specs.MarkChange.{with_marks, SetsMarks, MarksDirectory}
use Rattle.layer_tree.specs.declared.node.Marks.{Marks}
use Rattle.layer_tree.specs.declared.node.Node.{Node}
use Rattle.layer_tree.specs.declared.node.Node.TheVariants as node
use Rattle.layer_tree.proofs.Walks.{one_path}
use Rattle.layer_tree.proofs.Changing.{is_placed}
use Rattle.layer_tree.proofs.Roots.{links_of}
use Rattle.layer_tree.proofs.Layers.{named_number}
use Rattle.layer_tree.proofs.AttributeChanges.{held_at_key}
use Rattle.layer_tree.proofs.Replacing.{updates, same_entries, same_keys, still_nameless, held_beside, IsTree-replaced, IsLayer-replaced}

-- other marks leave the names, and of an inode everything
marks_leave_names : (m : Marks) (n : Node) → table_of (with_marks m n) ≡ table_of n
marks_leave_names m (node.Directory d) = refl
marks_leave_names m (node.Inode i) = refl

marks_leave_inode : (m : Marks) (n : Node) → inode_of (with_marks m n) ≡ inode_of n
marks_leave_inode m (node.Directory d) = refl
marks_leave_inode m (node.Inode i) = refl

marks_leave_number : (m : Marks) (n : Node) (k : ℕ) → named_number (Some (seen k (with_marks m n))) ≡ named_number (Some (seen k n))
marks_leave_number m (node.Directory d) k = refl
marks_leave_number m (node.Inode i) k = refl

-- where their redirect leads, and so did that before
still_leads : (m : Marks) → IsTrue (leads m.redirect) → (n : Node) (k : ℕ) → IsTrue (leads_on (Some (seen k n))) → IsTrue (leads_on (Some (seen k (with_marks m n))))
still_leads m lead (node.Directory d) k h = lead
still_leads m lead (node.Inode i) k h = h

-- a directory other than the root gets other marks
module _ (old : Tree) (key : ℕ) (before : Node) (found : get old key ≡ Some before) (m : Marks) where
  abbrev pub marked : Tree
  marked = with_value old key (with_marks m before)

  pub sets_marks : SetsMarks old marked key m
  sets_marks =
      let u = updates old key before (with_marks m before) found in
      record {
        there = u.changed ∙ sym (ap (option_map (with_marks m)) found);
        others = u.others;
        entries = same_entries old key before (with_marks m before) found (marks_leave_names m before);
        paths = same_keys old key before (with_marks m before) found (marks_leave_names m before);
      }

  pub nameless_marked : (k : ℕ) → IsNameless old k → IsNameless marked k
  nameless_marked = still_nameless old key before (with_marks m before) found (marks_leave_names m before)

  module _ (not_root : key ≢ ROOT) (lead : IsTrue (leads m.redirect)) (tree : IsTree old) where
    pub IsTree-marked : IsTree marked
    IsTree-marked = IsTree-replaced old key before (with_marks m before) found (marks_leave_names m before) (ap (option_map links_of) (marks_leave_inode m before)) (still_leads m lead before key) (λ e. absurd (not_root e)) tree

    pub IsLayer-marked : IsLayer (layer_of old) → IsLayer (layer_of marked)
    IsLayer-marked = IsLayer-replaced old key before (with_marks m before) found (marks_leave_names m before) (ap (option_map links_of) (marks_leave_inode m before)) (still_leads m lead before key) (λ e. absurd (not_root e)) tree (marks_leave_number m before)

    -- the path that leads to it holds it with these marks
    pub marks_directory : (path : Path) → key_at old path ≡ Some key → IsDirectory old key → MarksDirectory (layer_of old) (layer_of marked) path key m.opaque m.redirect
    marks_directory path at is = of before found (updates old key before (with_marks m before) found).changed
      where
        of : (n : Node) → get old key ≡ Some n → get marked key ≡ Some (with_marks m n) → MarksDirectory (layer_of old) (layer_of marked) path key m.opaque m.redirect
        of (node.Inode i) was now = absurd (true≢false (sym is ∙ ap (λ o. is_some (option_and_then table_of o)) was))
        of (node.Directory d) was now =
            record {
              attributes = d.attributes;
              was_opaque = d.marks.opaque;
              had_redirect = d.marks.redirect;
              before = held_at_key old tree path key at ∙ ap (option_map (seen key)) was;
              now = held_at_key marked IsTree-marked path key (sets_marks.paths path ∙ at) ∙ ap (option_map (seen key)) now;
              elsewhere = λ other differs. held_beside old key before (with_marks m before) found (marks_leave_names m before) other (λ e. differs (one_path (child old) ROOT (IsDirectory old) (is_placed old tree) other path key e at is));
              inodes = λ k. elim (cases_eq k key) [
                | inl e ↦ ap (inode_at marked) e ∙ ap (option_and_then inode_of) now ∙ sym (ap (option_and_then inode_of) was) ∙ sym (ap (inode_at old) e)
                | inr differs ↦ ap (option_and_then inode_of) (sets_marks.others k differs)
              ];
            }
