-- What a manifest says as a whole: its options and how many layers it has, or the first of its faults that are of no entry.
use Rattle.std.specs.Prelude.{◌≡◌, codes, ℕ, ℤ, pos, negsuc, List, Bool, true, false, not, ◌&&◌, ◌||◌, nat_le, suc, is_some, [], ◌∷◌, Result, Ok, Err, if◌then◌else◌}
use Rattle.std.specs.Option.{option_and_then, option_map_or, unwrap_or}
use Rattle.std.specs.Str.{bytes_eq}
use Rattle.toml.specs.Data.{Data, Items, no_items, item, Members, get_member, as_bool, as_str, as_integer, as_table}
use Rattle.ov_base.specs.declared.options.Options.{Options}
use Rattle.ov_wire.specs.ManifestEntries.{and_then, members_all, is_array_of, items_at, text_at}
use Rattle.ov_wire.specs.declared.manifest.fault.ManifestFault.{ManifestFault}
use Rattle.ov_wire.specs.declared.manifest.fault.ManifestFault.TheVariants as fault

-- how many items there are
abbrev pub items_len : Items → ℕ
items_len no_items = 0
items_len (item d rest) = suc (items_len rest)

abbrev pub is_table : Data → Bool
is_table d = is_some (as_table d)

-- a layer may have the key `entry`, an array of tables
abbrev pub is_layer_key : List ℕ → Data → Bool
is_layer_key key value = bytes_eq key (codes "entry") && is_array_of is_table value

-- a table of such keys
abbrev pub is_layer : Data → Bool
is_layer d = option_map_or (members_all is_layer_key) (as_table d) false

-- the keys at the top, each with a value of its type; that of `blobs` is judged later
abbrev pub is_top_key : List ℕ → Data → Bool
is_top_key key value =
    if bytes_eq key (codes "redirect_dir") then is_some (as_str value)
    else (if bytes_eq key (codes "metacopy") then is_some (as_str value)
    else (if bytes_eq key (codes "history") || bytes_eq key (codes "file_limit") then is_some (as_integer value)
    else (if bytes_eq key (codes "upper") then is_some (as_bool value)
    else (if bytes_eq key (codes "layer") then is_array_of is_layer value
    else bytes_eq key (codes "blobs")))))

-- whether there is an upper layer; without the key there is
abbrev pub has_upper : Members → Bool
has_upper manifest = unwrap_or (option_and_then as_bool (get_member (codes "upper") manifest)) true

-- whether redirects are made, by the word for it
abbrev pub redirects_named : List ℕ → Result Bool ManifestFault
redirects_named word =
    if bytes_eq word (codes "on") then Ok true
    else (if bytes_eq word (codes "off") then Ok false
    else Err fault.RedirectDir)

-- whether redirects are made; without the key they are not
abbrev pub redirects_of : Members → Result Bool ManifestFault
redirects_of manifest = option_map_or redirects_named (text_at (codes "redirect_dir") manifest) (Ok false)

-- whether files may be copied up without their bytes: where redirects are made, or nothing is copied up
abbrev pub may_metacopy : Bool → Members → Bool
may_metacopy redirects manifest = redirects || not (has_upper manifest)

-- whether files are copied up without their bytes, by the word for it, which is none where they may not be
abbrev pub metacopy_named : Bool → List ℕ → Result Bool ManifestFault
metacopy_named may word =
    if bytes_eq word (codes "on") then (if may then Ok true else Err fault.Metacopy)
    else (if bytes_eq word (codes "off") then Ok false
    else Err fault.Metacopy)

-- whether files are copied up without their bytes; without the key they are not
abbrev pub metacopy_of : Bool → Members → Result Bool ManifestFault
metacopy_of may manifest = option_map_or (metacopy_named may) (text_at (codes "metacopy") manifest) (Ok false)

-- a length of 2 to 1,000,000
abbrev pub history_within : ℤ → Result ℕ ManifestFault
history_within (pos n) = if nat_le 2 n && nat_le n 1000000 then Ok n else Err fault.History
history_within (negsuc n) = Err fault.History

-- the length of the history, 100,000 without the key
abbrev pub history_of : Members → Result ℕ ManifestFault
history_of manifest = history_within (unwrap_or (option_and_then as_integer (get_member (codes "history") manifest)) (pos 100000))

-- a limit of 1 to 2^40
abbrev pub file_limit_within : ℤ → Result ℕ ManifestFault
file_limit_within (pos n) = if nat_le 1 n && nat_le n 1099511627776 then Ok n else Err fault.FileLimit
file_limit_within (negsuc n) = Err fault.FileLimit

-- the most bytes of a file, 1,048,576 without the key
abbrev pub file_limit_of : Members → Result ℕ ManifestFault
file_limit_of manifest = file_limit_within (unwrap_or (option_and_then as_integer (get_member (codes "file_limit") manifest)) (pos 1048576))

abbrev pub is_text : Data → Bool
is_text d = is_some (as_str d)

-- the blobs are an array of texts, where the key is there
abbrev pub blobs_checked : Members → Result (Unit {0}) ManifestFault
blobs_checked manifest = if option_map_or (is_array_of is_text) (get_member (codes "blobs") manifest) true then Ok tt else Err fault.Blobs

-- the texts of an array of texts
abbrev pub texts_in : Items → List (List ℕ)
texts_in no_items = []
texts_in (item d rest) = unwrap_or (as_str d) [] ∷ texts_in rest

-- THE NAMES OF THE BLOBS, in the order of their numbers; none without the key
abbrev pub blob_names : Members → List (List ℕ)
blob_names manifest = texts_in (items_at (codes "blobs") manifest)

-- how many layers there are
abbrev pub layer_count : Members → ℕ
layer_count manifest = items_len (items_at (codes "layer") manifest)

-- the most layers that there may be: 16 lower ones, and the upper where there is one
abbrev pub layers_most : Bool → ℕ
layers_most has_upper = if has_upper then 17 else 16

-- whether there may be so many layers
abbrev pub is_layer_count : Bool → ℕ → Bool
is_layer_count has_upper count = nat_le 2 count && nat_le count (layers_most has_upper)

-- the entries of a layer, none without the key
abbrev pub entries_in : Data → Items
entries_in layer = option_map_or (items_at (codes "entry")) (as_table layer) no_items

-- each key at the top is one of these
abbrev pub checked : Members → Result (Unit {0}) ManifestFault
checked manifest = if members_all is_top_key manifest then Ok tt else Err fault.Key

-- the options, or a fault of the whole
abbrev pub options_of : Members → Result Options ManifestFault
options_of manifest =
    and_then (checked manifest) (λ _.
    and_then (redirects_of manifest) (λ redirects.
    and_then (metacopy_of (may_metacopy redirects manifest) manifest) (λ metacopy.
    and_then (history_of manifest) (λ history.
    and_then (file_limit_of manifest) (λ file_limit.
    and_then (blobs_checked manifest) (λ _.
    Ok (record { redirects = redirects; metacopy = metacopy; history = history; file_limit = file_limit })))))))

-- the options of a manifest of 2 to 17 layers, without an upper 2 to 16, or THE FIRST FAULT OF THE WHOLE: `key`, `redirect_dir`, `metacopy`,
-- `history`, `file_limit`, `blobs`, `layers`
abbrev pub whole_of : Members → Result Options ManifestFault
whole_of manifest = and_then (options_of manifest) (λ options. if is_layer_count (has_upper manifest) (layer_count manifest) then Ok options else Err fault.Layers)

-- a fault of an entry, or an allocation failure
abbrev pub IsOfEntry : ManifestFault → Type 0
IsOfEntry (fault.Entry layer entry f) = Unit {0}
IsOfEntry (fault.Memory e) = Unit {0}
IsOfEntry _ = ⊥

-- an allocation failure
abbrev pub IsMemory : ManifestFault → Type 0
IsMemory (fault.Memory e) = Unit {0}
IsMemory _ = ⊥

-- the fault is this one, unless memory ran out
abbrev pub Refuses : {T : Type 0} → Result T ManifestFault → ManifestFault → Type 0
Refuses (Ok x) wanted = ⊥
Refuses (Err (fault.Memory e)) wanted = Unit {0}
Refuses (Err f) wanted = f ≡ wanted
