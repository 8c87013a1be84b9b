pub mod SixBits
