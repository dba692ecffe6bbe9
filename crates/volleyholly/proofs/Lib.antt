mod Fresh
mod Flat
