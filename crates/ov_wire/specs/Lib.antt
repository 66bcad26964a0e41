pub mod ManifestEntries
pub mod Manifests
pub mod ManifestLayers
pub mod Drafts
