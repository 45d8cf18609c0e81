pub mod GeneratedImages
