-- A live file that is opened for writing, and has bytes of its own then.
use Rattle.std.proofs.Common.{◌≡◌, ℕ, Bool, true, false, cond, List, [], ◌∷◌, None, ap, ◌∙◌, subst, inl, inr, is_some}
use Rattle.std.proofs.lemmas.Bool.{cases_Bool}
use Rattle.ov_base.specs.declared.attributes.Attributes.{Attributes}
use Rattle.ov_base.specs.declared.bytes.Content.TheVariants.{File}
use Rattle.ov_base.specs.declared.call.OpenFlags.{OpenFlags}
use Rattle.ov_base.specs.declared.node_id.NodeId.{NodeId}
use Rattle.plain_model.specs.Layers.{Layer, AreLayers}
use Rattle.plain_model.specs.Tree.{Leaf, Own}
use Rattle.plain_model.specs.Machine.{State}
use Rattle.plain_model.specs.Changes.{with_bytes, touched, opened}
use Rattle.plain_model.proofs.Kept.{opened-mild}
use Rattle.mount_laws.specs.Looks.{IsMountOf}
use Rattle.mount_laws.specs.OpenFiles.{IsLive, ChangesFile, AltersFile, LawOfChangedFile}
use Rattle.mount_laws.proofs.Written.{alters}

-- an open for writing leaves a file the bytes that it shows
touched-file : (bytes : List ℕ) (a : Attributes) (b : Bool) (l : ℕ) (f : OpenFlags) → f.writes ≡ true → f.truncate ≡ false → opened f (Leaf (File bytes) a (Own b) l) ≡ Leaf (File bytes) a (Own false) l
touched-file bytes a b l f w t = ap (λ z. cond z (cond f.truncate (with_bytes [] (touched (Leaf (File bytes) a (Own b) l))) (touched (Leaf (File bytes) a (Own b) l))) (Leaf (File bytes) a (Own b) l)) w ∙ ap (λ z. cond z (with_bytes [] (Leaf (File bytes) a (Own false) l)) (Leaf (File bytes) a (Own false) l)) t

-- or none, where it is emptied
emptied-file : (bytes : List ℕ) (a : Attributes) (b : Bool) (l : ℕ) (f : OpenFlags) → f.writes ≡ true → f.truncate ≡ true → opened f (Leaf (File bytes) a (Own b) l) ≡ Leaf (File []) a (Own false) l
emptied-file bytes a b l f w t = ap (λ z. cond z (cond f.truncate (with_bytes [] (touched (Leaf (File bytes) a (Own b) l))) (touched (Leaf (File bytes) a (Own b) l))) (Leaf (File bytes) a (Own b) l)) w ∙ ap (λ z. cond z (with_bytes [] (Leaf (File bytes) a (Own false) l)) (Leaf (File bytes) a (Own false) l)) t

-- so a live file whose bytes are its own then is altered and no more
filled-open :
    (U V : Layer) (lowers : List Layer) (s : State) → IsMountOf U lowers s → AreLayers (V ∷ lowers) → (d : NodeId) (k : ℕ) →
    (f : OpenFlags) → f.writes ≡ true → f.truncate ≡ false → (l : IsLive U s.tree d k) → ChangesFile U V k l.bytes None →
    AltersFile U V lowers s d k (opened f)
filled-open U V lowers s m b d k f w t l c = alters U V lowers s m b d k (opened f) (opened-mild f) l.bytes None l (touched-file l.bytes l.attributes (is_some l.mark) l.links f w t) c

-- emptied or not
filled-empty :
    (U V : Layer) (lowers : List Layer) (s : State) → IsMountOf U lowers s → AreLayers (V ∷ lowers) → (d : NodeId) (k : ℕ) →
    (f : OpenFlags) → f.writes ≡ true → f.truncate ≡ true → (l : IsLive U s.tree d k) → ChangesFile U V k [] None →
    AltersFile U V lowers s d k (opened f)
filled-empty U V lowers s m b d k f w t l c = alters U V lowers s m b d k (opened f) (opened-mild f) [] None l (emptied-file l.bytes l.attributes (is_some l.mark) l.links f w t) c

-- both ways
pub law_of_changed_file : LawOfChangedFile
law_of_changed_file U V lowers s m b d k f w l c = elim (cases_Bool f.truncate) [
  | inl t ↦ filled-empty U V lowers s m b d k f w t l (subst (λ (z : Bool). ChangesFile U V k (cond z [] l.bytes) None) t c)
  | inr t ↦ filled-open U V lowers s m b d k f w t l (subst (λ (z : Bool). ChangesFile U V k (cond z [] l.bytes) None) t c)
]
