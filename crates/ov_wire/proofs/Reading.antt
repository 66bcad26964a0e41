-- Entries and layers one after the other, as they are read.
use Rattle.std.proofs.Common.{◌≡◌, ℕ, Bool, suc, ◌+◌, ◌<◌, ◌≤◌, List, [], ◌∷◌, ◌++◌, length, get_or, drop, take, map, true, false, cond, codes, ◌&&◌, nat_le, ℤ, pos, negsuc, Option, Some, None, Result, Ok, Err, IfOk, IfErr, is_ok, true≢false, refl, sym, ap, subst, ◌∙◌, add-one}
use Rattle.std.proofs.lemmas.List.{drop_more, drop_all, take_more, map-append}
use Rattle.toml.specs.Data.{Items, no_items, item, Members, as_integer, get_member}
use Rattle.toml.specs.View.{view, items_view}
use Rattle.toml.specs.declared.value.Value.{Value}
use Rattle.plain_model.specs.Layers.{Layer, IsLayer, AreLayers}
use Rattle.std.specs.Option.{option_and_then, option_map_or, unwrap_or}
use Rattle.std.specs.Str.{bytes_eq}
use Rattle.ov_wire.specs.ManifestEntries.{and_then, is_array_of, members_all, text_at}
use Rattle.ov_wire.specs.Manifests.{blobs_checked, checked, entries_in, file_limit_of, file_limit_within, has_upper, history_of, history_within, is_layer_count, is_text, is_top_key, layer_count, may_metacopy, metacopy_named, metacopy_of, options_of, redirects_named, redirects_of, whole_of, Refuses}
use Rattle.ov_base.specs.declared.attributes.Attributes.{Attributes}
use Rattle.ov_base.specs.declared.options.Options.{Options}
use Rattle.layer_tree.specs.Tree.{Tree, layer_of}
use Rattle.ov_wire.specs.Drafts.{Places}
use Rattle.ov_wire.specs.ManifestLayers.{layer_items, unless_fault, manifest_of, IsTold, fault_of, ReadsLayer, fault_at, Entry, with_spelled, numbered, entries_from, entries_of, IsSpelled, AreSpelled, fault_or, layers_fault}
use Rattle.ov_wire.specs.declared.manifest.fault.EntryFault.{EntryFault}
use Rattle.ov_wire.specs.declared.manifest.fault.EntryError.{EntryError}
use Rattle.ov_wire.specs.declared.manifest.fault.EntryError.TheVariants as error
use Rattle.ov_wire.specs.declared.manifest.fault.ManifestFault.{ManifestFault}
use Rattle.ov_wire.specs.declared.manifest.fault.ManifestFault.TheVariants as whole

-- what is left begins with the value at hand
pub left : (xs : List Value) (i : ℕ) (x : Value) → i < length xs → x ≡ get_or xs i x → drop i xs ≡ x ∷ drop (i + 1) xs
left xs i x within is = drop_more xs i x within ∙ ap (λ y. y ∷ drop (i + 1) xs) (sym is)

module _ (limit : ℕ) (blobs : List (List ℕ)) (xs : List Value) (i : ℕ) (before : List Entry) where
  -- one entry on
  pub entry-on : (x : Value) (after : List Entry) → i < length xs → x ≡ get_or xs i x → with_spelled limit blobs before (view x) ≡ Ok after → entries_from limit blobs i before (items_view (drop i xs)) ≡ entries_from limit blobs (i + 1) after (items_view (drop (i + 1) xs))
  entry-on x after within is w =
      ap (λ ys. entries_from limit blobs i before (items_view ys)) (left xs i x within is)
      ∙ ap (λ r. and_then (numbered i r) (λ more. entries_from limit blobs (suc i) more (items_view (drop (i + 1) xs)))) w
      ∙ ap (λ j. entries_from limit blobs j after (items_view (drop (i + 1) xs))) (sym (add-one i))

  -- an entry at fault
  pub entry-fault : (x : Value) (f : EntryFault) → i < length xs → x ≡ get_or xs i x → with_spelled limit blobs before (view x) ≡ Err f → entries_from limit blobs i before (items_view (drop i xs)) ≡ Err (i, f)
  entry-fault x f within is w =
      ap (λ ys. entries_from limit blobs i before (items_view ys)) (left xs i x within is)
      ∙ ap (λ r. and_then (numbered i r) (λ more. entries_from limit blobs (suc i) more (items_view (drop (i + 1) xs)))) w

  -- no entry is left
  pub entries-end : length xs ≤ i → entries_from limit blobs i before (items_view (drop i xs)) ≡ Ok before
  entries-end past = ap (λ ys. entries_from limit blobs i before (items_view ys)) (drop_all i xs past)

-- one more layer
pub AreSpelled-push : (limit : ℕ) (blobs : List (List ℕ)) (Ls : List Layer) (xs : List Value) (L : Layer) (x : Value) → AreSpelled limit blobs Ls (items_view xs) → IsSpelled limit blobs L (entries_in (view x)) → AreSpelled limit blobs (Ls ++ L ∷ []) (items_view (xs ++ x ∷ []))
AreSpelled-push limit blobs [] [] L x h s = (s, tt)
AreSpelled-push limit blobs [] (y ∷ ys) L x h s = absurd h
AreSpelled-push limit blobs (M ∷ Ls) [] L x h s = absurd h
AreSpelled-push limit blobs (M ∷ Ls) (y ∷ ys) L x h s = (h.0, AreSpelled-push limit blobs Ls ys L x h.1 s)

pub AreLayers-push : (Ls : List Layer) (L : Layer) → AreLayers Ls → IsLayer L → AreLayers (Ls ++ L ∷ [])
AreLayers-push [] L h s = (s, tt)
AreLayers-push (M ∷ Ls) L h s = (h.0, AreLayers-push Ls L h.1 s)

module _ (limit : ℕ) (blobs : List (List ℕ)) (xs : List Value) (i j : ℕ) where
  -- a layer without a fault
  pub layer-on : (x : Value) (entries : List Entry) → i < length xs → x ≡ get_or xs i x → entries_of limit blobs (entries_in (view x)) ≡ Ok entries → layers_fault limit blobs j (items_view (drop i xs)) ≡ layers_fault limit blobs (j + 1) (items_view (drop (i + 1) xs))
  layer-on x entries within is e =
      ap (λ ys. layers_fault limit blobs j (items_view ys)) (left xs i x within is)
      ∙ ap (λ r. fault_or j r (layers_fault limit blobs (suc j) (items_view (drop (i + 1) xs)))) e
      ∙ ap (λ k. layers_fault limit blobs k (items_view (drop (i + 1) xs))) (sym (add-one j))

  -- a layer at fault
  pub layer-fault : (x : Value) (number : ℕ) (f : EntryFault) → i < length xs → x ≡ get_or xs i x → entries_of limit blobs (entries_in (view x)) ≡ Err (number, f) → layers_fault limit blobs j (items_view (drop i xs)) ≡ Some (whole.Entry j number f)
  layer-fault x number f within is e =
      ap (λ ys. layers_fault limit blobs j (items_view ys)) (left xs i x within is)
      ∙ ap (λ r. fault_or j r (layers_fault limit blobs (suc j) (items_view (drop (i + 1) xs)))) e

-- an entry at fault is told with its number
pub told : (limit : ℕ) (blobs : List (List ℕ)) (xs : List Value) (i : ℕ) (before : List Entry) (x : Value) (index : ℕ) (L : Layer) (a : Attributes) (e : EntryError) (r : ManifestFault) → r ≡ fault_at index i e → i < length xs → x ≡ get_or xs i x → entries_of limit blobs (items_view xs) ≡ entries_from limit blobs i before (items_view (drop i xs)) → Places {T = Bool} (λ s. s) L a (with_spelled limit blobs before (view x)) (Err e) → ReadsLayer limit blobs index (items_view xs) (Err r)
told limit blobs xs i before x index L a (error.Fault f) r is within at so_far p =
    subst (λ (r : ManifestFault). ReadsLayer limit blobs index (items_view xs) (Err r)) (sym is) (refl, so_far ∙ entry-fault limit blobs xs i before x f within at p)
told limit blobs xs i before x index L a (error.Memory m) r is within at so_far p =
    subst (λ (r : ManifestFault). ReadsLayer limit blobs index (items_view xs) (Err r)) (sym is) tt

module _ (limit : ℕ) (blobs : List (List ℕ)) (old new : List Tree) (t : Tree) (xs : List Value) (i : ℕ) (x : Value) (grown : new ≡ old ++ t ∷ []) where
  -- the layers with one more are as they are spelled
  pub spelled-on : i < length xs → x ≡ get_or xs i x → AreSpelled limit blobs (map layer_of old) (items_view (take i xs)) → IsSpelled limit blobs (layer_of t) (entries_in (view x)) → AreSpelled limit blobs (map layer_of new) (items_view (take (i + 1) xs))
  spelled-on within is h s =
      let more : take (i + 1) xs ≡ take i xs ++ x ∷ [] = take_more xs i x within ∙ ap (λ y. take i xs ++ y ∷ []) (sym is) in
      subst (λ ts. AreSpelled limit blobs (map layer_of ts) (items_view (take (i + 1) xs))) (sym grown)
      (subst (λ Ls. AreSpelled limit blobs Ls (items_view (take (i + 1) xs))) (sym (map-append layer_of old (t ∷ [])))
      (subst (λ ys. AreSpelled limit blobs (map layer_of old ++ layer_of t ∷ []) (items_view ys)) (sym more)
      (AreSpelled-push limit blobs (map layer_of old) (take i xs) (layer_of t) x h s)))

  -- the layers with one more are layers
  pub layers-on : AreLayers (map layer_of old) → IsLayer (layer_of t) → AreLayers (map layer_of new)
  layers-on h s =
      subst (λ ts. AreLayers (map layer_of ts)) (sym grown)
      (subst AreLayers (sym (map-append layer_of old (t ∷ []))) (AreLayers-push (map layer_of old) (layer_of t) h s))

-- a layer's fault is the first, where none was before
pub first-told : (limit : ℕ) (blobs : List (List ℕ)) (i : ℕ) (items : Items) (later : Option ManifestFault) (e : ManifestFault) → ReadsLayer limit blobs i items (Err e) → IsTold (fault_or i (entries_of limit blobs items) later) e
first-told limit blobs i items later (whole.Entry layer number f) h = ap (λ r. fault_or i r later) h.1 ∙ ap (λ (l : ℕ). Some (whole.Entry l number f)) (sym h.0)
first-told limit blobs i items later (whole.Memory m) h = tt
first-told limit blobs i items later whole.NotToml h = absurd h
first-told limit blobs i items later whole.Key h = absurd h
first-told limit blobs i items later whole.RedirectDir h = absurd h
first-told limit blobs i items later whole.Metacopy h = absurd h
first-told limit blobs i items later whole.History h = absurd h
first-told limit blobs i items later whole.FileLimit h = absurd h
first-told limit blobs i items later whole.Blobs h = absurd h
first-told limit blobs i items later whole.Layers h = absurd h

-- layers that are as they are spelled have no fault
pub spelled-faultless : (limit : ℕ) (blobs : List (List ℕ)) (i : ℕ) (Ls : List Layer) (items : Items) → AreSpelled limit blobs Ls items → layers_fault limit blobs i items ≡ None
spelled-faultless limit blobs i [] no_items h = refl
spelled-faultless limit blobs i [] (item d rest) h = absurd h
spelled-faultless limit blobs i (L ∷ Ls) no_items h = absurd h
spelled-faultless limit blobs i (L ∷ Ls) (item d rest) h = ap (λ r. fault_or i r (layers_fault limit blobs (suc i) rest)) (h.0).1 ∙ spelled-faultless limit blobs (suc i) Ls rest h.1

-- a fault of the entries is that of the manifest, whose whole has none
pub told-of-entries : (blobs : List (List ℕ)) (m : Members) (options : Options) (e : ManifestFault) → whole_of m ≡ Ok options → IsTold (layers_fault options.file_limit blobs 0 (layer_items m)) e → IsTold (fault_of (manifest_of blobs m)) e
told-of-entries blobs m options e w h = subst (λ o. IsTold o e) (sym (ap (λ r. fault_of (and_then r (λ (o : Options). unless_fault (layers_fault o.file_limit blobs 0 (layer_items m)) o))) w ∙ of (layers_fault options.file_limit blobs 0 (layer_items m)))) h
  where
    of : (o : Option ManifestFault) → fault_of (unless_fault o options) ≡ o
    of None = refl
    of (Some f) = refl

-- a manifest without a fault is its options
pub options-of-entries : (blobs : List (List ℕ)) (m : Members) (options : Options) → whole_of m ≡ Ok options → layers_fault options.file_limit blobs 0 (layer_items m) ≡ None → manifest_of blobs m ≡ Ok options
options-of-entries blobs m options w none = ap (λ r. and_then r (λ (o : Options). unless_fault (layers_fault o.file_limit blobs 0 (layer_items m)) o)) w ∙ ap (λ f. unless_fault f options) none

-- what tells each fault refuses by it
pub refuses-told : {T : Type 0} (r : Result T ManifestFault) (wanted : Result Options ManifestFault) → IfErr r (IsTold (fault_of wanted)) → IfOk r (λ _. is_ok wanted ≡ true) → IfErr wanted (Refuses r)
refuses-told r (Ok options) told ok = tt
refuses-told (Ok x) (Err f) told ok = absurd (true≢false (sym ok))
refuses-told (Err (whole.Memory m)) (Err f) told ok = tt
refuses-told (Err (whole.Entry layer number g)) (Err f) told ok = cc
refuses-told (Err whole.NotToml) (Err f) told ok = cc
refuses-told (Err whole.Key) (Err f) told ok = cc
refuses-told (Err whole.RedirectDir) (Err f) told ok = cc
refuses-told (Err whole.Metacopy) (Err f) told ok = cc
refuses-told (Err whole.History) (Err f) told ok = cc
refuses-told (Err whole.FileLimit) (Err f) told ok = cc
refuses-told (Err whole.Blobs) (Err f) told ok = cc
refuses-told (Err whole.Layers) (Err f) told ok = cc

-- what isn't that fault, and goes on to none, isn't it
then-toml : {A B : Type 0} (x : Result A ManifestFault) (f : A → Result B ManifestFault) → (x ≡ Err whole.NotToml → ⊥) → ((a : A) → f a ≡ Err whole.NotToml → ⊥) → and_then x f ≡ Err whole.NotToml → ⊥
then-toml (Ok a) f h g is = g a is
then-toml (Err e) f h g is = let same : e ≡ whole.NotToml = cc in h (ap Err same)

-- nor one of two that aren't
either-toml : {T : Type 0} (b : Bool) (x y : Result T ManifestFault) → (x ≡ Err whole.NotToml → ⊥) → (y ≡ Err whole.NotToml → ⊥) → cond b x y ≡ Err whole.NotToml → ⊥
either-toml true x y h g is = h is
either-toml false x y h g is = g is

-- nor what a text says, or else a default
said-toml : {T : Type 0} (o : Option (List ℕ)) (f : List ℕ → Result T ManifestFault) (d : Result T ManifestFault) → ((word : List ℕ) → f word ≡ Err whole.NotToml → ⊥) → (d ≡ Err whole.NotToml → ⊥) → option_map_or f o d ≡ Err whole.NotToml → ⊥
said-toml None f d h g is = g is
said-toml (Some word) f d h g is = h word is

-- nor a value or another fault
value-toml : {T : Type 0} (x : T) (r : Result T ManifestFault) → r ≡ Ok x → r ≡ Err whole.NotToml → ⊥
value-toml x r e is = cc

key-toml : {T : Type 0} (r : Result T ManifestFault) → r ≡ Err whole.Key → r ≡ Err whole.NotToml → ⊥
key-toml r e is = cc

redirect-toml : {T : Type 0} (r : Result T ManifestFault) → r ≡ Err whole.RedirectDir → r ≡ Err whole.NotToml → ⊥
redirect-toml r e is = cc

metacopy-toml : {T : Type 0} (r : Result T ManifestFault) → r ≡ Err whole.Metacopy → r ≡ Err whole.NotToml → ⊥
metacopy-toml r e is = cc

history-toml : {T : Type 0} (r : Result T ManifestFault) → r ≡ Err whole.History → r ≡ Err whole.NotToml → ⊥
history-toml r e is = cc

length-toml : (z : ℤ) → history_within z ≡ Err whole.NotToml → ⊥
length-toml (pos n) is = either-toml (nat_le 2 n && nat_le n 1000000) (Ok n) (Err whole.History) (value-toml n (Ok n) refl) (history-toml (Err whole.History) refl) is
length-toml (negsuc n) is = history-toml (history_within (negsuc n)) refl is

limit-toml : {T : Type 0} (r : Result T ManifestFault) → r ≡ Err whole.FileLimit → r ≡ Err whole.NotToml → ⊥
limit-toml r e is = cc

most-toml : (z : ℤ) → file_limit_within z ≡ Err whole.NotToml → ⊥
most-toml (pos n) is = either-toml (nat_le 1 n && nat_le n 1099511627776) (Ok n) (Err whole.FileLimit) (value-toml n (Ok n) refl) (limit-toml (Err whole.FileLimit) refl) is
most-toml (negsuc n) is = limit-toml (file_limit_within (negsuc n)) refl is

blobs-toml : {T : Type 0} (r : Result T ManifestFault) → r ≡ Err whole.Blobs → r ≡ Err whole.NotToml → ⊥
blobs-toml r e is = cc

word-toml : (word : List ℕ) → redirects_named word ≡ Err whole.NotToml → ⊥
word-toml word =
    either-toml (bytes_eq word (codes "on")) (Ok true) _ (value-toml true (Ok true) refl)
    (either-toml (bytes_eq word (codes "off")) (Ok false) (Err whole.RedirectDir) (value-toml false (Ok false) refl) (redirect-toml (Err whole.RedirectDir) refl))

copies-toml : (may : Bool) (word : List ℕ) → metacopy_named may word ≡ Err whole.NotToml → ⊥
copies-toml may word =
    either-toml (bytes_eq word (codes "on")) _ _
    (either-toml may (Ok true) (Err whole.Metacopy) (value-toml true (Ok true) refl) (metacopy-toml (Err whole.Metacopy) refl))
    (either-toml (bytes_eq word (codes "off")) (Ok false) (Err whole.Metacopy) (value-toml false (Ok false) refl) (metacopy-toml (Err whole.Metacopy) refl))

layers-toml : {T : Type 0} (r : Result T ManifestFault) → r ≡ Err whole.Layers → r ≡ Err whole.NotToml → ⊥
layers-toml r e is = cc

-- the options of a text that is TOML are never refused for not being so
options-toml : (m : Members) → options_of m ≡ Err whole.NotToml → ⊥
options-toml m =
    then-toml (checked m) _ (either-toml (members_all is_top_key m) (Ok tt) (Err whole.Key) (value-toml tt (Ok tt) refl) (key-toml (Err whole.Key) refl))
    (λ unit. then-toml (redirects_of m) _
    (said-toml (text_at (codes "redirect_dir") m) redirects_named (Ok false) word-toml (value-toml false (Ok false) refl))
    (λ redirects. then-toml (metacopy_of (may_metacopy redirects m) m) _
    (said-toml (text_at (codes "metacopy") m) (metacopy_named (may_metacopy redirects m)) (Ok false) (copies-toml (may_metacopy redirects m)) (value-toml false (Ok false) refl))
    (λ metacopy. then-toml (history_of m) _ (length-toml (unwrap_or (option_and_then as_integer (get_member (codes "history") m)) (pos 100000))) (λ history. then-toml (file_limit_of m) _ (most-toml (unwrap_or (option_and_then as_integer (get_member (codes "file_limit") m)) (pos 1048576)))
    (λ file_limit. then-toml (blobs_checked m) _ (either-toml (option_map_or (is_array_of is_text) (get_member (codes "blobs") m) true) (Ok tt) (Err whole.Blobs) (value-toml tt (Ok tt) refl) (blobs-toml (Err whole.Blobs) refl))
    (λ unit. let options : Options = record { redirects = redirects; metacopy = metacopy; history = history; file_limit = file_limit } in value-toml options (Ok options) refl))))))

-- NOR IS THE WHOLE
pub whole-toml : (m : Members) → whole_of m ≡ Err whole.NotToml → ⊥
whole-toml m =
    then-toml (options_of m) _ (options-toml m)
    (λ options. either-toml (is_layer_count (has_upper m) (layer_count m)) (Ok options) (Err whole.Layers) (value-toml options (Ok options) refl) (layers-toml (Err whole.Layers) refl))
