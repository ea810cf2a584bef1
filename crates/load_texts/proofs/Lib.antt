mod TextLemmas
mod SizeLemmas
mod Examples
